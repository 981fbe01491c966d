pub mod KeyParts
pub mod MethodNeeds
pub mod Items
pub mod Given
pub mod RevisionOrder
pub mod OctetOrder
pub mod Revisions
