pub mod UsedKeys
