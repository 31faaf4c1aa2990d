mod Examples
mod Objects
