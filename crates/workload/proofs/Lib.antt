pub mod GeneratedLaws
pub mod LineLaws
pub mod ScriptLaws
pub mod TallyLaws
