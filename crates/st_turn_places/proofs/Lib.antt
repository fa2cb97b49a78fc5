mod Lists
mod NodesTwice
mod ShownPlaces
