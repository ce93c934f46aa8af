-- How the server wraps a group's key (TS005-1.0.0, McGroupSetupReq).
use Rattle.std.specs.Prelude.{ℕ, List, [], find, unwrap_or}
use Rattle.std.specs.List.{range_with_len}
use Rattle.std.specs.Str.{bytes_eq}
use Rattle.frag_model.specs.Verdict.{all_lists}
use Rattle.mc_keys.specs.Keys.{mc_key}

-- McKey_encrypted: the block of 16 bytes whose encryption under McKEKey is McKey; it is never searched for this way
unfoldable pub wrapped_key : (kek key : List ℕ) → List ℕ
wrapped_key kek key = unwrap_or (find (λ block. bytes_eq (mc_key kek block) key) (all_lists (range_with_len 0 256) 16)) []
