-- The numbers of seed 0, the first bytes of its body, and where firmware versions start again from 1.
use Rattle.std.specs.Prelude.{◌≡◌, true, false, [], ◌∷◌, length, take, drop, codes}
use Rattle.campaign_generator.specs.Draws.{stepped, drawn, after_draws}
use Rattle.campaign_generator.specs.Firmware.{body_of, size_of, firmware_of_seed, bytes_from, fragments_of, fragments_of_size}
use Rattle.campaign_generator.specs.Script.{devices_from, rounds, is_skipped, skips, downs_from, script_from, sent_of}

pub record IsWorkedSeed : Type 0 where
  pub drawn_is : drawn 0 ≡ 15470
  pub body : body_of 0 ≡ 7278
  pub size : size_of 0 ≡ 7327
  pub fragments : fragments_of 0 ≡ 115
  pub sent : sent_of 0 ≡ 291
  pub bytes : bytes_from (stepped 0) 4 ≡ 0x50 ∷ 0xcc ∷ 0xf9 ∷ 0x52 ∷ []
  pub highest_firmware : firmware_of_seed 999 ≡ 1000
  pub lowest_firmware : firmware_of_seed 1000 ≡ 1
  pub three_draws : after_draws 0 3 ≡ 3519870697
  pub one_fragment : fragments_of_size 64 ≡ 1
  pub two_fragments : fragments_of_size 65 ≡ 2

-- what is skipped, and the lines that are written, worked out in Python
pub record IsWorkedScript : Type 0 where
  -- of the pieces 60 are skipped at the most, and any coded fragment, where 0 was drawn
  pub skipped_60th : is_skipped 0 115 115 59 ≡ true
  pub skipped_no_more : is_skipped 0 115 115 60 ≡ false
  pub skipped_coded : is_skipped 0 115 116 60 ≡ true
  pub skipped_by_0_alone : is_skipped 1 115 116 0 ≡ false
  pub counted : skips true 115 115 5 ≡ 6
  pub coded_not_counted : skips true 115 116 5 ≡ 5
  pub not_skipped : skips false 115 1 5 ≡ 5
  -- two devices; two turns of each of two; and four fragments, of which 1, 7, 0 and 6 were drawn
  pub devices : devices_from 0 1 2
      ≡ codes "device 1 c 1 64 15470 00000000000000000000000000000000\ndevice 2 c 1 64 18256 00000000000000000000000000000000\n"
  pub turned : rounds 2 3 1 1 2
      ≡ codes "ask 3\ndown 1 3\nup 1\nask 3\ndown 2 3\nup 2\nask 4\ndown 3 4\nup 3\nask 4\ndown 4 4\nup 4\n"
  pub comes : downs_from 3 5 26 1 0 4 ≡ codes "down 17 3\ndown 17 3\ndown 18 3\ndown 20 3\n"
  -- the script of an image without pieces: 128 coded fragments, of which each device hears some
  pub starts : take 76 (script_from 0 0) ≡ codes "fuota 1\nimage 64 128\ndevice 1 c 1 64 15470 00000000000000000000000000000000\n"
  pub ends : drop 12826 (script_from 0 0) ≡ codes "ask 8\ndown 176 8\nup 48\nend\n"
  pub long : length (script_from 0 0) ≡ 12853
