-- The worked texts, by computing.
use Rattle.std.specs.Fmt.{digits}
use Rattle.hex.specs.Hex.{encode_with}
use Rattle.package_grammar.specs.WorkedTexts.{SyncTexts, FragmentTexts, GroupTexts}

pub sync_texts : SyncTexts
unfolding digits encode_with
sync_texts = search

pub fragment_texts : FragmentTexts
unfolding digits encode_with
fragment_texts = search

pub group_texts : GroupTexts
unfolding digits encode_with
group_texts = search
