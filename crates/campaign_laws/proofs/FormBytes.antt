-- The keys and addresses that the words of a line spell fit their fields.
use Rattle.std.proofs.Common.{◌≡◌, ℕ, ◌+◌, ◌-◌, ◌/◌, ◌^◌, ◌<◌, ◌==◌, ◌&&◌, Bool, true, false, cond, List, [], ◌∷◌, length, map, nat_lt, get_or, codes, Option, None, Some, IfSome, Result, Ok, Err, refl, subst, arith, eqb-true}
use Rattle.std.specs.Int.{w32, from_be_bytes}
use Rattle.std.proofs.lemmas.Option.{IfSome_then}
use Rattle.hex.specs.declared.error.FromHexError.{FromHexError}
use Rattle.hex.specs.declared.error.FromHexError.TheVariants.{OddLength, InvalidStringLength}
use Rattle.hex.specs.Hex.{decode_pairs}
use Rattle.hex.proofs.HexLemmas.{decode_pairs-ok}
use Rattle.aes_block.specs.Cipher.{IsBlock}
use Rattle.script_lines.specs.declared.forms.Form.{Form}
use Rattle.script_lines.specs.declared.forms.Form.TheVariants.{Header, Image, Group, WindowC, WindowB, Device, At, Wake, Migrate, Power, Ask, Frag, Status, Down, Raw, Air, RawAir, Up, End}
use Rattle.script_lines.specs.Lines.{word, is_word, lines_of}
use Rattle.script_lines.specs.Numbers.{key_of, hex_number_of, read_part, ◌>>=◌}
use Rattle.script_lines.specs.Limits.{max_line}
use Rattle.report_lines.specs.declared.faults.LineWhy.TheVariants as why
use Rattle.campaign_world.specs.Said.{own, line_of, said_in}
use Rattle.campaign_laws.specs.Fields.{HasFields, LineFits, AllFit}
use Rattle.script_lines.specs.Forms.{count_of, alone, at_form, wake_form, migrate_form, power_form, ask_form, up_form, decimal_at, hex_at, key_at, bytes_at, class_at, header_form, image_words, image_form, group_words, group_form, window_from, window_form, device_words, device_of_words, device_to, device_from, device_form, down_words, down_of, down_form, raw_words, raw_form, in_the_air, air_form, raw_air_words, raw_air_form, form_of}

-- ---- what hex digits spell

record AreSized (n : ℕ) (bytes : List ℕ) : Type 0 where
  long : length bytes ≡ n
  fit : (i : ℕ) → get_or bytes i 0 < 256

pairs_sized : (n : ℕ) (digits : List ℕ) (r : Result (List ℕ) FromHexError) → decode_pairs 0 digits ≡ r → length digits / 2 ≡ n
    → IfSome (read_part r) (AreSized n)
pairs_sized n digits (Err e) is half = tt
pairs_sized n digits (Ok bytes) is half =
    let p = decode_pairs-ok 0 digits bytes is in
    record { long = omega (arith, p.1, half); fit = p.2 }

sized : (n : ℕ) (digits : List ℕ) (a b : Bool) → (length digits / 2 == n) ≡ b
    → IfSome (read_part (cond {A = Result (List ℕ) FromHexError} a (Err OddLength)
    (cond b (decode_pairs 0 digits) (Err InvalidStringLength)))) (AreSized n)
sized n digits true b is = tt
sized n digits false true is = pairs_sized n digits (decode_pairs 0 digits) refl (eqb-true _ _ is)
sized n digits false false is = tt

-- a key of 16 bytes
block_by : (o : Option (List ℕ)) → IfSome o (AreSized 16) → IfSome o IsBlock
block_by None s = tt
block_by (Some bytes) s = record { len = s.long; bytes_fit = s.fit }

pub key_block : (digits : List ℕ) → IfSome (key_of digits) IsBlock
unfolding key_of
key_block digits = block_by _ (sized 16 digits _ _ refl)

-- a number of 4 bytes
number_small : (bytes : List ℕ) → AreSized 4 bytes → from_be_bytes w32 bytes < 2 ^ 32
number_small (a ∷ b ∷ c ∷ d ∷ []) s =
    omega (arith, s.fit 0, s.fit 1, s.fit 2, s.fit 3)
number_small [] s = absurd (omega (arith, s.long))
number_small (a ∷ []) s = absurd (omega (arith, s.long))
number_small (a ∷ b ∷ []) s = absurd (omega (arith, s.long))
number_small (a ∷ b ∷ c ∷ []) s = absurd (omega (arith, s.long))
number_small (a ∷ b ∷ c ∷ d ∷ e ∷ more) s = absurd (omega (arith, s.long))

small_by : (o : Option (List ℕ)) → IfSome o (AreSized 4) → IfSome (o >>= (λ bytes. Some (from_be_bytes w32 bytes))) (λ n. n < 2 ^ 32)
small_by None s = tt
small_by (Some bytes) s = number_small bytes s

pub hex_small : (digits : List ℕ) → IfSome (hex_number_of digits) (λ n. n < 2 ^ 32)
unfolding hex_number_of
hex_small digits = small_by _ (sized 4 digits _ _ refl)

-- ---- forms

-- one that may name a campaign: none that both of two campaigns take, that names only a device, or that brings nobody's payload
abbrev pub may_name : Form → Bool
may_name Header = false
may_name (At time) = false
may_name (Wake device) = false
may_name (Migrate device) = false
may_name (Power device) = false
may_name (Ask device) = false
may_name (Raw device port payload random) = false
may_name (RawAir device bytes random) = false
may_name End = false
may_name form = true

-- what the words of such a form spell, for an image of this index
abbrev pub IsNamed : ℕ → Form → Type 0
IsNamed index form = HasFields index form × (may_name form ≡ true)

-- a form that is spelt is one of these
pub record Fits (P : Form → Type 0) (o : Option Form) : Type 0 where
  pub its : IfSome o P

leaf : {P : Form → Type 0} (form : Form) → P form → Fits P (Some form)
leaf form fits = record { its = fits }

pub nothing : {P : Form → Type 0} → Fits P None
nothing = record { its = tt }

pub either : {P : Form → Type 0} (b : Bool) (one other : Option Form) → Fits P one → Fits P other → Fits P (cond b one other)
either true one other k l = k
either false one other k l = l

pub behind : {A : Type 0} {P : Form → Type 0} (o : Option A) (f : A → Option Form) → ((x : A) → o ≡ Some x → Fits P (f x)) → Fits P (o >>= f)
behind None f h = nothing
behind (Some x) f h = h x refl

pub fits_then : {P Q : Form → Type 0} (o : Option Form) → Fits P o → ((form : Form) → P form → Q form) → Fits Q o
fits_then {P} {Q} o k then = record { its = IfSome_then o {P = P} {Q = Q} k.its then }

pub at_some : {A : Type 0} (P : A → Type 0) (o : Option A) (x : A) → IfSome o P → o ≡ Some x → P x
at_some P None x k is = absurd cc
at_some P (Some y) x k is = let same : y ≡ x = cc in subst P same k

pub group_words_fit : (line : List ℕ) (k id : ℕ) → Fits (IsNamed 0) (group_words line k id)
group_words_fit line k id =
    behind (hex_at line k) _ (λ addr addr_is. behind (key_at line (k + 1)) _ (λ key key_is. behind (decimal_at line (k + 2)) _ (λ min min_is.
    behind (decimal_at line (k + 3)) _ (λ max max_is. leaf (Group id addr key min max) (
      (
        at_some (λ (n : ℕ). n < 2 ^ 32) (hex_at line k) addr (hex_small (word line k)) addr_is,
        at_some IsBlock (key_at line (k + 1)) key (key_block (word line (k + 1))) key_is,
      ),
      refl,
    )))))

device_words_fit : (line : List ℕ) (k : ℕ) (descriptor : Option ℕ) (v1 k11 flash : Bool) → Fits (IsNamed 0) (device_words line k descriptor v1 k11 flash)
device_words_fit line k descriptor v1 k11 flash =
    behind (decimal_at line 1) _ (λ id id_is. behind (class_at line k) _ (λ class class_is. behind (decimal_at line (k + 1)) _ (λ hw hw_is.
    behind (decimal_at line (k + 2)) _ (λ rows rows_are. behind (decimal_at line (k + 3)) _ (λ offset offset_is.
    behind (key_at line (k + 4)) _ (λ key key_is. leaf (Device (record { id = id; class = class; hw = hw; rows = rows; offset = offset; key = key; descriptor = descriptor; v1 = v1; k11 = k11; flash = flash }))
    (at_some IsBlock (key_at line (k + 4)) key (key_block (word line (k + 4))) key_is, refl)))))))

device_of_words_fit : (line : List ℕ) (k count : ℕ) (k11 flash : Bool) → Fits (IsNamed 0) (device_of_words line k count k11 flash)
device_of_words_fit line k count k11 flash =
    either _ _ _ (device_words_fit line k None false k11 flash)
    (either _ _ _ (device_words_fit line k None true k11 flash)
    (either _ _ _ (behind (hex_at line (k + 5)) _ (λ d is. device_words_fit line k (Some d) false k11 flash))
    (either _ _ None (behind (hex_at line (k + 5)) _ (λ d is. device_words_fit line k (Some d) true k11 flash)) nothing)))

device_to_fit : (line : List ℕ) (k count : ℕ) (flash : Bool) → Fits (IsNamed 0) (device_to line k count flash)
device_to_fit line k count flash =
    either _ _ _ (device_of_words_fit line k (count - 1) true flash) (device_of_words_fit line k count false flash)

pub device_fits : (line : List ℕ) (k : ℕ) → Fits (IsNamed 0) (device_from line k)
device_fits line k =
    either _ _ _ (device_to_fit line k (count_of line - 1) true) (device_to_fit line k (count_of line) false)

pub image_words_fit : (line : List ℕ) (k index : ℕ) → Fits (IsNamed index) (image_words line k index)
image_words_fit line k index =
    behind (decimal_at line k) _ (λ size is. behind (decimal_at line (k + 1)) _ (λ parity parity_is. leaf (Image size parity index) (refl, refl)))

pub window_fits : (line : List ℕ) (k : ℕ) → Fits (IsNamed 0) (window_from line k)
window_fits line k = either _ _ _
    (behind (decimal_at line (k + 1)) _ (λ a ai. behind (decimal_at line (k + 1 + 1)) _ (λ b bi. behind (decimal_at line (k + 1 + 2)) _ (λ c ci.
    behind (decimal_at line (k + 1 + 3)) _ (λ d di. leaf (WindowC a b c d) (tt, refl))))))
    (either _ _ None (behind (decimal_at line (k + 1)) _ (λ a ai. behind (decimal_at line (k + 1 + 1)) _ (λ b bi. behind (decimal_at line (k + 1 + 2)) _ (λ c ci.
    behind (decimal_at line (k + 1 + 3)) _ (λ d di. behind (decimal_at line (k + 1 + 4)) _ (λ e ei. leaf (WindowB a b c d e) (tt, refl))))))) nothing)

-- a word and a number behind it
pub lone_fits : {P : Form → Type 0} (line : List ℕ) (b : Bool) (form : ℕ → Form) → ((n : ℕ) → P (form n))
    → Fits P (cond b (decimal_at line 1 >>= (λ n. Some (form n))) None)
lone_fits line b form h = either b _ None (behind (decimal_at line 1) _ (λ n is. leaf (form n) (h n))) nothing

-- a word alone
pub alone_fits : {P : Form → Type 0} (b : Bool) (form : Form) → P form → Fits P (cond b (Some form) None)
alone_fits b form h = either b (Some form) None (leaf form h) nothing

pub air_fits : (o : Option Form) → Fits (IsNamed 0) (in_the_air o)
air_fits None = nothing
air_fits (Some (Down number device random)) = leaf (Air number device random) (tt, refl)
air_fits (Some form) = nothing

down_words_fit : (line : List ℕ) (payload : Option ℕ) (random : ℕ) → Fits (IsNamed 0) (down_words line payload random)
down_words_fit line payload random =
    behind payload _ (λ n is. behind (decimal_at line 2) _ (λ d di. leaf (Down n d random) (tt, refl)))

pub down_fits : (line : List ℕ) (payload : Option ℕ) → Fits (IsNamed 0) (down_of line payload)
down_fits line payload =
    either _ (down_words line payload 0) _ (down_words_fit line payload 0)
    (either _ _ None (behind (decimal_at line 3) _ (λ r ri. down_words_fit line payload r)) nothing)

raw_words_fit : (line : List ℕ) (random : ℕ) → Fits (HasFields 0) (raw_words line random)
raw_words_fit line random =
    behind (decimal_at line 1) _ (λ d di. behind (decimal_at line 2) _ (λ p pi. behind (bytes_at line 3) _ (λ b bi. leaf (Raw d p b random) tt)))

raw_fits : (line : List ℕ) → Fits (HasFields 0) (raw_form line)
raw_fits line =
    either _ (raw_words line 0) _ (raw_words_fit line 0)
    (either _ _ None (behind (decimal_at line 4) _ (λ r ri. raw_words_fit line r)) nothing)

raw_air_words_fit : (line : List ℕ) (random : ℕ) → Fits (HasFields 0) (raw_air_words line random)
raw_air_words_fit line random =
    behind (decimal_at line 1) _ (λ d di. behind (bytes_at line 2) _ (λ b bi. leaf (RawAir d b random) tt))

raw_air_fits : (line : List ℕ) → Fits (HasFields 0) (raw_air_form line)
raw_air_fits line =
    either _ (raw_air_words line 0) _ (raw_air_words_fit line 0)
    (either _ _ None (behind (decimal_at line 3) _ (λ r ri. raw_air_words_fit line r)) nothing)

named_fits : (o : Option Form) → Fits (IsNamed 0) o → Fits (HasFields 0) o
named_fits o k = fits_then o k (λ form its. its.0)

all_fit : (line : List ℕ) → Fits (HasFields 0) (form_of line)
unfolding form_of
all_fit line =
    either (is_word line 0 (codes "fuota")) (header_form line) _ (alone_fits (count_of line == 2 && is_word line 1 (codes "1")) Header tt)
    (either (is_word line 0 (codes "image")) (image_form line) _ (named_fits _ (either _ _ None (image_words_fit line 1 0) nothing))
    (either (is_word line 0 (codes "group")) (group_form line) _ (named_fits _ (either _ _ None (group_words_fit line 1 0) nothing))
    (either (is_word line 0 (codes "window")) (window_form line) _ (named_fits _ (window_fits line 1))
    (either (is_word line 0 (codes "device")) (device_form line) _ (named_fits _ (device_fits line 2))
    (either (is_word line 0 (codes "at")) (at_form line) _ (lone_fits line (count_of line == 2) (λ n. At n) (λ n. tt))
    (either (is_word line 0 (codes "wake")) (wake_form line) _ (lone_fits line (count_of line == 2) (λ n. Wake n) (λ n. tt))
    (either (is_word line 0 (codes "migrate")) (migrate_form line) _ (lone_fits line (count_of line == 2) (λ n. Migrate n) (λ n. tt))
    (either (is_word line 0 (codes "power")) (power_form line) _ (lone_fits line (count_of line == 2) (λ n. Power n) (λ n. tt))
    (either (is_word line 0 (codes "ask")) (ask_form line) _ (lone_fits line (count_of line == 2) (λ n. Ask n) (λ n. tt))
    (either (is_word line 0 (codes "frag")) (alone line Frag) _ (alone_fits (count_of line == 1) Frag tt)
    (either (is_word line 0 (codes "status")) (alone line Status) _ (alone_fits (count_of line == 1) Status tt)
    (either (is_word line 0 (codes "down")) (down_form line) _ (named_fits _ (down_fits line (decimal_at line 1)))
    (either (is_word line 0 (codes "raw")) (raw_form line) _ (raw_fits line)
    (either (is_word line 0 (codes "air")) (air_form line) _ (named_fits _ (air_fits (down_form line)))
    (either (is_word line 0 (codes "rawair")) (raw_air_form line) _ (raw_air_fits line)
    (either (is_word line 0 (codes "up")) (up_form line) _ (lone_fits line (count_of line == 2) (λ n. Up n) (λ n. tt))
    (either (is_word line 0 (codes "end")) (alone line End) _ (alone_fits (count_of line == 1) End tt) nothing)))))))))))))))))

pub form_fits : (line : List ℕ) → IfSome (form_of line) (HasFields 0)
form_fits line = (all_fit line).its

-- so do those of each line of a script
own_fits : (index : ℕ) (o : Option Form) → IfSome o (HasFields index) → LineFits index (own o)
own_fits index None fits = tt
own_fits index (Some form) fits = fits

line_fits : (text : List ℕ) → LineFits 0 (line_of text)
line_fits text = by (nat_lt max_line (length text))
  where
    by : (long : Bool) → LineFits 0 (cond long (Err why.Limit) (own (form_of text)))
    by true = tt
    by false = own_fits 0 (form_of text) (form_fits text)

pub script_fits : (script : List ℕ) → AllFit 0 (said_in script)
script_fits script = all (lines_of script)
  where
    all : (texts : List (List ℕ)) → AllFit 0 (map line_of texts)
    all [] = tt
    all (text ∷ texts) = (line_fits text, all texts)
