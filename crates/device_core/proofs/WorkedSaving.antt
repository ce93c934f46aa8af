-- The worked saved devices, each by computing.
use Rattle.sha2.specs.Sha256.{first_words, schedule, rounds, compress, hash_after, digest_bytes, sha256}
use Rattle.device_core.specs.Saving.{config_bytes, state_bytes, saved_of}
use Rattle.device_core.specs.WorkedSaving.{SavedDevices}

pub saving : SavedDevices
unfolding first_words schedule rounds compress hash_after digest_bytes sha256 config_bytes state_bytes saved_of
saving = search
