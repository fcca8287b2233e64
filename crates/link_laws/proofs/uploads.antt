pub mod AnsweredLaws
pub mod EntryItems
pub mod ItemLemmas
pub mod OkayLaws
pub mod SessionOkay
pub mod UploadLaws
