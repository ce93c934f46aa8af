-- What is the same of two shards, and which calls and answers count, worked out.
use Rattle.std.specs.Prelude.{◌≡◌, [], ◌∷◌, Some, None, Ok, Err}
use Rattle.campaign_server.specs.declared.fragments.Spent.TheVariants.{Counts}
use Rattle.campaign_server.specs.declared.stage.Stage.TheVariants.{Updated}
use Rattle.campaign_server.specs.Server.{ServerState}
use Rattle.campaign_server.specs.Counts.{NextFragment, StatusAll, Uplink}
use Rattle.campaign_server.specs.Restarts.{Fragment, ToAll, Answer}
use Rattle.campaign_server.specs.WorkedSteps.{grouped, worked_group, worked_window}
use Rattle.shard_laws.specs.Shards.{for_all, calls_to_all, told_to_all}

-- a server that has sent a fragment, and whose device is updated
abbrev pub server : ServerState
server = record { plan = grouped; image = 7 ∷ []; stages = Updated ∷ []; statuses = None ∷ []; next = 2; count = 6 }

pub record WorkedShards : Type 0 where
  pub server : for_all server ≡ record {
    plan = record { frag_size = 13; parity = 4; index = 0; group = Some worked_group; window = Some worked_window; devices = [] };
    image = 7 ∷ [];
    stages = [];
    statuses = [];
    next = 2;
    count = 6;
  }
  pub calls : calls_to_all (Uplink 1 201 [] 0 ∷ NextFragment ∷ Uplink 2 201 [] 0 ∷ StatusAll ∷ []) ≡ NextFragment ∷ StatusAll ∷ []
  pub told : told_to_all (Answer (Ok None) ∷ Fragment (Err Counts) ∷ Answer (Ok None) ∷ ToAll None ∷ [])
      ≡ Fragment (Err Counts) ∷ ToAll None ∷ []
