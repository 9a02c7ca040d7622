mod Lists
mod Same
