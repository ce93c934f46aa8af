-- What a line of two campaigns spells: keys and addresses that fit their fields, nobody's payload but a server's, and where it names
-- a campaign a form of one, that no other line spells.
use Rattle.std.proofs.Common.{◌≡◌, ℕ, ◌^◌, ◌<◌, ◌==◌, Bool, true, false, cond, List, codes, Option, None, Some, IfSome, refl}
use Rattle.aes_block.specs.Cipher.{IsBlock}
use Rattle.script_lines.specs.declared.forms.Campaign.{Campaign}
use Rattle.script_lines.specs.declared.forms.Form.{Form}
use Rattle.script_lines.specs.declared.forms.Form.TheVariants.{Header, Image, Group, Device, At, Wake, Migrate, Power, Ask, Frag, Status, Raw, RawAir, Up, End}
use Rattle.script_lines.specs.declared.forms.PairForm.{PairForm}
use Rattle.script_lines.specs.Lines.{word, is_word}
use Rattle.script_lines.specs.Forms.{count_of, alone, at_form, wake_form, migrate_form, power_form, ask_form, decimal_at, window_from, device_from, in_the_air}
use Rattle.script_lines.specs.PairForms.{campaign_at, letter_of, number_behind, of_none, of_named, pair_header, pair_image, pair_group, pair_alone, pair_down, pair_up, pair_form_of}
use Rattle.campaign_laws.proofs.FormBytes.{may_name, IsNamed, Fits, nothing, either, behind, fits_then, at_some, group_words_fit, device_fits, image_words_fit, window_fits, lone_fits, alone_fits, air_fits, down_fits}

-- what a form of such a line has
abbrev pub Has : Form → Type 0
Has (Group id addr key min max) = (addr < 2 ^ 32) × IsBlock key
Has (Device dev) = IsBlock dev.key
Has (Raw device port payload random) = ⊥
Has (RawAir device bytes random) = ⊥
Has form = Unit {0}

-- and which it is
abbrev pub IsSpelt : Option Campaign → Form → Type 0
IsSpelt None form = Unit {0}
IsSpelt (Some x) form = may_name form ≡ true

record PairFits (o : Option PairForm) : Type 0 where
  its : IfSome o (λ p. Has p.form × IsSpelt p.campaign p.form)

none_fits : (o : Option Form) → Fits Has o → PairFits (of_none o)
none_fits None k = record { its = tt }
none_fits (Some f) k = record { its = (k.its, tt) }

named_has : (index : ℕ) (form : Form) → IsNamed index form → Has form
named_has index (Image size parity its) k = tt
named_has index (Raw device port payload random) k = absurd cc
named_has index (RawAir device bytes random) k = absurd cc
named_has index form k = k.0

-- a form of one campaign, whatever index it has
abbrev IsOwn : Form → Type 0
IsOwn form = Has form × (may_name form ≡ true)

own_fits : (index : ℕ) (o : Option Form) → Fits (IsNamed index) o → Fits IsOwn o
own_fits index o k = fits_then o k (λ form its. (named_has index form its, its.1))

named_fits : (named : Option Campaign) (o : Option Form) → Fits IsOwn o → PairFits (of_named named o)
named_fits None o k = record { its = tt }
named_fits (Some x) None k = record { its = tt }
named_fits (Some x) (Some f) k = record { its = k.its }

or : (b : Bool) (one other : Option PairForm) → PairFits one → PairFits other → PairFits (cond b one other)
or true one other k l = k
or false one other k l = l

pair_image_fits : (line : List ℕ) → Fits IsOwn (pair_image line)
pair_image_fits line = either _ _ None (behind (decimal_at line 4) _ (λ index is. own_fits index _ (image_words_fit line 2 index))) nothing

pair_group_fits : (line : List ℕ) → Fits IsOwn (pair_group line)
pair_group_fits line = either _ _ None (behind (decimal_at line 2) _ (λ id is. own_fits 0 _ (group_words_fit line 3 id))) nothing

pair_up_fits : (line : List ℕ) → Fits IsOwn (pair_up line)
pair_up_fits line = either _ _ None (behind (number_behind (word line 1)) _ (λ n is. alone_fits true (Up n) (tt, refl))) nothing

all_fit : (line : List ℕ) → PairFits (pair_form_of line)
unfolding pair_form_of
all_fit line =
    or (is_word line 0 (codes "fuota")) _ _ (none_fits (pair_header line) (alone_fits _ Header tt))
    (or (is_word line 0 (codes "image")) _ _ (named_fits (campaign_at line 1) (pair_image line) (pair_image_fits line))
    (or (is_word line 0 (codes "group")) _ _ (named_fits (campaign_at line 1) (pair_group line) (pair_group_fits line))
    (or (is_word line 0 (codes "window")) _ _ (named_fits (campaign_at line 1) (window_from line 2) (own_fits 0 _ (window_fits line 2)))
    (or (is_word line 0 (codes "device")) _ _ (named_fits (campaign_at line 2) (device_from line 3) (own_fits 0 _ (device_fits line 3)))
    (or (is_word line 0 (codes "at")) _ _ (none_fits (at_form line) (lone_fits line (count_of line == 2) (λ n. At n) (λ n. tt)))
    (or (is_word line 0 (codes "wake")) _ _ (none_fits (wake_form line) (lone_fits line (count_of line == 2) (λ n. Wake n) (λ n. tt)))
    (or (is_word line 0 (codes "migrate")) _ _ (none_fits (migrate_form line) (lone_fits line (count_of line == 2) (λ n. Migrate n) (λ n. tt)))
    (or (is_word line 0 (codes "power")) _ _ (none_fits (power_form line) (lone_fits line (count_of line == 2) (λ n. Power n) (λ n. tt)))
    (or (is_word line 0 (codes "ask")) _ _ (none_fits (ask_form line) (lone_fits line (count_of line == 2) (λ n. Ask n) (λ n. tt)))
    (or (is_word line 0 (codes "frag")) _ _ (named_fits (campaign_at line 1) (pair_alone line Frag) (alone_fits _ Frag (tt, refl)))
    (or (is_word line 0 (codes "status")) _ _ (named_fits (campaign_at line 1) (pair_alone line Status) (alone_fits _ Status (tt, refl)))
    (or (is_word line 0 (codes "down")) _ _ (named_fits (letter_of (word line 1)) (pair_down line) (own_fits 0 _ (down_fits line (number_behind (word line 1)))))
    (or (is_word line 0 (codes "air")) _ _ (named_fits (letter_of (word line 1)) (in_the_air (pair_down line)) (own_fits 0 _ (air_fits (pair_down line))))
    (or (is_word line 0 (codes "up")) _ _ (named_fits (letter_of (word line 1)) (pair_up line) (pair_up_fits line))
    (or (is_word line 0 (codes "end")) _ _ (none_fits (alone line End) (alone_fits _ End tt)) (record { its = tt }))))))))))))))))

pub form_spelt : (line : List ℕ) (pair_form : PairForm) → pair_form_of line ≡ Some pair_form
    → Has pair_form.form × IsSpelt pair_form.campaign pair_form.form
form_spelt line pair_form is =
    at_some (λ (p : PairForm). Has p.form × IsSpelt p.campaign p.form) (pair_form_of line) pair_form (all_fit line).its is
