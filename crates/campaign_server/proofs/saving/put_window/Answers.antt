use Rattle.std.proofs.Common.{[], ◌∷◌, ◌∙◌}
use Rattle.wire_base.specs.Numbers.{number_bytes}
use Rattle.campaign_server.specs.Saving.{kind_bytes}
use Rattle.campaign_server.proofs.SavedBytes.{window_put, le_bytes_of_4}
use Rattle.campaign_server.proofs.saving.put_window.Goals as goal

pub returns-in-Some-clause-bytes : goal.returns-in-Some-clause-bytes
returns-in-Some-clause-bytes c =
    rw (c.put-in-Some.ensures, c.put.ensures, c.kind_bytes.ensures, c.to_le_bytes.ensures ∙ le_bytes_of_4 c.in-Some.window.start, c.to_le_bytes-in-Some.ensures ∙ le_bytes_of_4 c.in-Some.window.freq, c.in-Some.is)
    (window_put c.args.to.now.items (kind_bytes c.in-Some.window.kind) (number_bytes 4 c.in-Some.window.start)
    (c.in-Some.window.timeout ∷ number_bytes 4 c.in-Some.window.freq) (c.in-Some.window.dr ∷ []))
