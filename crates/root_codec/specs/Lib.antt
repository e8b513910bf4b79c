pub mod RootRecord
pub mod Fields
pub mod Laws
