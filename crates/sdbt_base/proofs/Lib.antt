pub mod CountLaws
pub mod FaultLaws
pub mod KeyLaws
pub mod RiseLaws
pub mod ToldLaws
