mod KeyLemmas
mod StepLemmas
mod AuditLemmas
