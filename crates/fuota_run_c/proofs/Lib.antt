mod Filled
mod OneMore
