pub mod HexTexts
pub mod NumberTexts
pub mod SplitLaws
pub mod LineLaws
