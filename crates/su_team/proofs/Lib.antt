mod Digits
mod Examples
mod GroupLemmas
mod KeptTimes
mod NextUsers
mod TeamUserLemmas
mod UserLines
mod WholeTexts
