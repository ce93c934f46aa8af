use Rattle.payload_replay.proofs.Payloads.{decoded_none}
use Rattle.payload_replay.proofs.decoding.Decoding.new.Goals as goal

pub returns : goal.returns
returns c = decoded_none c.args.port c.args.dir c.new.result.items c.new.ensures.items
