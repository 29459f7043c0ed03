pub mod Truth
pub mod DigitLaws
pub mod LowestLaws
pub mod LetterLaws
pub mod MemberLaws
pub mod FirstLaws
pub mod SizeLaws
