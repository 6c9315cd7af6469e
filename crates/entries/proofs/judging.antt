pub mod ChainLaws
pub mod JudgeLaws
