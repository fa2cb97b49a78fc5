mod BackRows
mod Seeds
mod Shown
mod Meeting
mod SchemasMeet
mod BackFound
mod FirstOver
mod SecondOver
