use Rattle.campaign_server.proofs.asking.told_block.Goals as goal

pub returns : goal.returns
returns c = record { len = c.told-block; bytes_fit = λ i. c.fits-block i }
