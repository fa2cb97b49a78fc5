mod ShownAlike
mod LoadsEnd
