mod NameLists
mod Steps
