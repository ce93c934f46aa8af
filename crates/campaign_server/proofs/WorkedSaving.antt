-- The worked saved servers, each by computing.
use Rattle.sha2.specs.Sha256.{first_words, schedule, rounds, compress, hash_after, digest_bytes, sha256}
use Rattle.campaign_server.specs.Saving.{plan_bytes, state_bytes, saved_of}
use Rattle.campaign_server.specs.WorkedSaving.{SavingSteps}

pub saving : SavingSteps
unfolding first_words schedule rounds compress hash_after digest_bytes sha256 plan_bytes state_bytes saved_of
saving = search
