pub mod EachCampaign
pub mod Crossing
