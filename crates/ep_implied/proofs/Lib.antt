mod Products
mod SumSteps
mod Following
