mod Answering
mod Listing
mod Placing
