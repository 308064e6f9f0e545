pub mod Laying
pub mod SlotLaws
pub mod TakenLaws
pub mod KeptLaws
pub mod OpenLaws
