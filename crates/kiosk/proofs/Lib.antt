mod Answering
mod Carrying
