pub mod Printed
pub mod Answered
pub mod GivenBack
pub mod ReadBack
