pub mod MomentLaws
pub mod ServedLaws
pub mod StandingLaws
pub mod PuttingLaws
