pub mod Digits
pub mod Leaves
pub mod Turns
pub mod MemberLists
pub mod NodeSpellings
pub mod Texts
