-- The worked groups, by computing, and the key by the worked keys.
use Rattle.mc_keys.proofs.WorkedKeys.{keys, session_keys}
use Rattle.mc_group.specs.WorkedGroups.{WorkedGroups, WorkedSetup}

pub groups : WorkedGroups
groups = search

pub setup : WorkedSetup
setup = search (keys, session_keys)
