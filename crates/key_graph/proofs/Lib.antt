pub mod ChainLaws
pub mod OwnLaws
pub mod LaterLaws
pub mod SeizureLaws
pub mod TraceLaws
pub mod SearchLaws
