-- A line that is put together of words is parted into them again, and spells its form.
use Rattle.std.proofs.Common.{◌≡◌, ℕ, ◌^◌, ◌<◌, ◌≤◌, true, false, ◌==◌, nat_lt, List, [], ◌∷◌, ◌++◌, length, map, replicate, codes, Option, Some, refl, sym, ap, ◌∙◌, lit≤, lit<, append_assoc, append-nil, arith}
use Rattle.std.specs.List.{AllByRecursion, slice_split, list_all}
use Rattle.std.specs.Char.{is_ascii_digit}
use Rattle.std.specs.Fmt.{decimal}
use Rattle.std.proofs.lemmas.List.{length-append, map-append}
use Rattle.std.proofs.lemmas.List.Elements.{All-from_recursion}
use Rattle.std.proofs.lemmas.List.Splits.{slice_split_none, slice_split_at}
use Rattle.std.proofs.lemmas.Fmt.{length-decimal-le}
use Rattle.hex.specs.Hex.{decode_pairs}
use Rattle.script_lines.specs.declared.forms.Form.{Form}
use Rattle.script_lines.specs.declared.forms.Form.TheVariants.{Header, Image, Ask, Frag, Up, End}
use Rattle.script_lines.specs.Lines.{words_of, word, lines_of, without_empty_last}
use Rattle.script_lines.specs.Numbers.{decimal_of, key_of}
use Rattle.script_lines.specs.Forms.{form_of}
use Rattle.campaign_generator.specs.Script.{device_line, ask_line, down_line, up_line}
use Rattle.campaign_generator.specs.Forms.{device_form, down_form}
use Rattle.campaign_generator.proofs.Decimals.{decimal_is_read, is_decimal_of, and_parts}

-- ---- words

-- a word holds neither a space nor a line feed
abbrev IsWord : List ℕ → Type 0
IsWord w = list_all (λ b. nat_lt 32 b) w ≡ true

abbrev Without : ℕ → List ℕ → Type 0
Without c bytes = AllByRecursion (λ b. (b == c) ≡ false) bytes

word_without : (c : ℕ) (w : List ℕ) → c ≤ 32 → IsWord w → Without c w
word_without c [] low is = tt
word_without c (b ∷ w) low is =
    let p = and_parts (nat_lt 32 b) (list_all (λ x. nat_lt 32 x) w) is in
    (grind (arith, p.0, low), word_without c w low p.1)

digits_word : (ds : List ℕ) → list_all is_ascii_digit ds ≡ true → IsWord ds
digits_word [] all = refl
digits_word (d ∷ ds) all =
    let p = and_parts (is_ascii_digit d) (list_all is_ascii_digit ds) all in
    let one : nat_lt 32 d ≡ true = grind (arith, p.0) in
    rw (one, digits_word ds p.1) refl

decimal_word : (n : ℕ) → n < 2 ^ 16 → IsWord (decimal n)
decimal_word n small = digits_word (decimal n) (is_decimal_of n (omega (arith, small))).digits

-- words with a space between them
abbrev joined : List ℕ → List (List ℕ) → List ℕ
joined w [] = w
joined w (v ∷ ws) = w ++ 32 ∷ joined v ws

-- and with a line feed after them
abbrev ended : List ℕ → List (List ℕ) → List ℕ
ended w [] = w ++ 10 ∷ []
ended w (v ∷ ws) = w ++ 32 ∷ ended v ws

ended_is : (w : List ℕ) (ws : List (List ℕ)) → ended w ws ≡ joined w ws ++ 10 ∷ []
ended_is w [] = refl
ended_is w (v ∷ ws) = ap (λ (t : List ℕ). w ++ 32 ∷ t) (ended_is v ws) ∙ sym (append_assoc w (32 ∷ joined v ws) (10 ∷ []))

words_joined : (w : List ℕ) (ws : List (List ℕ)) → IsWord w → AllByRecursion IsWord ws → words_of (joined w ws) ≡ w ∷ ws
unfolding words_of
words_joined w [] here all = slice_split_none (λ b. b == 32) w (All-from_recursion (λ b. (b == 32) ≡ false) w (word_without 32 w (lit≤ tt) here))
words_joined w (v ∷ vs) here all =
    slice_split_at (λ b. b == 32) w 32 (joined v vs) (All-from_recursion (λ b. (b == 32) ≡ false) w (word_without 32 w (lit≤ tt) here)) refl
    ∙ ap (λ (us : List (List ℕ)). w ∷ us) (words_joined v vs all.0 all.1)

without_both : (c : ℕ) (xs ys : List ℕ) → Without c xs → Without c ys → Without c (xs ++ ys)
without_both c [] ys a b = b
without_both c (x ∷ xs) ys a b = (a.0, without_both c xs ys a.1 b)

joined_without : (w : List ℕ) (ws : List (List ℕ)) → IsWord w → AllByRecursion IsWord ws → Without 10 (joined w ws)
joined_without w [] here all = word_without 10 w (lit≤ tt) here
joined_without w (v ∷ vs) here all =
    without_both 10 w (32 ∷ joined v vs) (word_without 10 w (lit≤ tt) here) (refl, joined_without v vs all.0 all.1)

-- ---- a text and the forms of its lines

-- whatever stands after a text, its lines come first, spell these forms, and are short
pub record Reads (text : List ℕ) (forms : List Form) : Type 0 where
  pub lines : List (List ℕ)
  pub split : (rest : List ℕ) → slice_split (λ b. b == 10) (text ++ rest) ≡ lines ++ slice_split (λ b. b == 10) rest
  pub spelled : map form_of lines ≡ map Some forms
  pub short : AllByRecursion (λ line. length line ≤ 60) lines

pub reads_none : Reads [] []
reads_none = record { lines = []; split = λ rest. refl; spelled = refl; short = tt }

all_both : {A : Type 0} (P : A → Type 0) (xs ys : List A) → AllByRecursion P xs → AllByRecursion P ys → AllByRecursion P (xs ++ ys)
all_both P [] ys a b = b
all_both P (x ∷ xs) ys a b = (a.0, all_both P xs ys a.1 b)

pub reads_both : (s t : List ℕ) (fs gs : List Form) → Reads s fs → Reads t gs → Reads (s ++ t) (fs ++ gs)
reads_both s t fs gs a b = record {
  lines = a.lines ++ b.lines;
  split = λ rest. ap (slice_split (λ x. x == 10)) (append_assoc s t rest) ∙ a.split (t ++ rest)
      ∙ ap (λ (us : List (List ℕ)). a.lines ++ us) (b.split rest) ∙ sym (append_assoc a.lines b.lines (slice_split (λ x. x == 10) rest));
  spelled = map-append form_of a.lines b.lines ∙ ap (λ (os : List (Option Form)). os ++ map form_of b.lines) a.spelled
      ∙ ap (λ (os : List (Option Form)). map Some fs ++ os) b.spelled ∙ sym (map-append Some fs gs);
  short = all_both (λ line. length line ≤ 60) a.lines b.lines a.short b.short;
}

-- a line of words
reads_words : (w : List ℕ) (ws : List (List ℕ)) (form : Form) → IsWord w → AllByRecursion IsWord ws → length (joined w ws) ≤ 60
    → ((line : List ℕ) → words_of line ≡ w ∷ ws → form_of line ≡ Some form) → Reads (ended w ws) (form ∷ [])
reads_words w ws form here all short spells = record {
  lines = joined w ws ∷ [];
  split = λ rest. ap (λ (t : List ℕ). slice_split (λ b. b == 10) (t ++ rest)) (ended_is w ws)
      ∙ ap (slice_split (λ b. b == 10)) (append_assoc (joined w ws) (10 ∷ []) rest)
      ∙ slice_split_at (λ b. b == 10) (joined w ws) 10 rest (All-from_recursion (λ b. (b == 10) ≡ false) (joined w ws) (joined_without w ws here all)) refl;
  spelled = ap (λ (o : Option Form). o ∷ []) (spells (joined w ws) (words_joined w ws here all));
  short = (short, tt);
}

no_last : (xss : List (List ℕ)) → without_empty_last (xss ++ [] ∷ []) ≡ xss
no_last [] = refl
no_last (xs ∷ []) = by xs
  where
    by : (ys : List ℕ) → without_empty_last (ys ∷ [] ∷ []) ≡ ys ∷ []
    by [] = refl
    by (y ∷ ys) = refl
no_last (xs ∷ ys ∷ zss) = ap (λ (us : List (List ℕ)). xs ∷ us) (no_last (ys ∷ zss))

pub lines_are : (text : List ℕ) (forms : List Form) → (reads : Reads text forms) → lines_of text ≡ reads.lines
unfolding lines_of
lines_are text forms reads =
    ap (λ (t : List ℕ). without_empty_last (slice_split (λ b. b == 10) t)) (sym (append-nil text))
    ∙ ap without_empty_last (reads.split []) ∙ no_last reads.lines

-- ---- the forms

fixed_one : decimal_of (codes "1") ≡ Some 1
unfolding decimal_of
fixed_one = refl

fixed_rows : decimal_of (codes "64") ≡ Some 64
unfolding decimal_of
fixed_rows = refl

fixed_parity : decimal_of (codes "128") ≡ Some 128
unfolding decimal_of
fixed_parity = refl

fixed_key : key_of (codes "00000000000000000000000000000000") ≡ Some (replicate 16 0)
unfolding key_of decode_pairs
fixed_key = refl

read_back : (n : ℕ) → n < 2 ^ 16 → decimal_of (decimal n) ≡ Some n
read_back n small = decimal_is_read n (omega (arith, small))

digits_few : (n : ℕ) → n < 2 ^ 16 → length (decimal n) ≤ 5
digits_few n small = length-decimal-le 5 n (lit< tt) (omega (arith, small)) (omega (arith, small))

header_spelled : (line : List ℕ) → words_of line ≡ codes "fuota" ∷ codes "1" ∷ [] → form_of line ≡ Some Header
unfolding form_of word
header_spelled line words = rw words refl

image_spelled : (line : List ℕ) → words_of line ≡ codes "image" ∷ codes "64" ∷ codes "128" ∷ [] → form_of line ≡ Some (Image 64 128 0)
unfolding form_of word
image_spelled line words = rw (words, fixed_rows, fixed_parity) refl

device_spelled : (device offset : ℕ) → device < 2 ^ 16 → offset < 2 ^ 16 → (line : List ℕ)
    → words_of line ≡ codes "device" ∷ decimal device ∷ codes "c" ∷ codes "1" ∷ codes "64" ∷ decimal offset ∷ codes "00000000000000000000000000000000" ∷ []
    → form_of line ≡ Some (device_form device offset)
unfolding form_of word
device_spelled device offset low small line words = rw (words, read_back device low, fixed_one, fixed_rows, read_back offset small, fixed_key) refl

ask_spelled : (device : ℕ) → device < 2 ^ 16 → (line : List ℕ) → words_of line ≡ codes "ask" ∷ decimal device ∷ [] → form_of line ≡ Some (Ask device)
unfolding form_of word
ask_spelled device low line words = rw (words, read_back device low) refl

frag_spelled : (line : List ℕ) → words_of line ≡ codes "frag" ∷ [] → form_of line ≡ Some Frag
unfolding form_of word
frag_spelled line words = rw words refl

down_spelled : (sent device : ℕ) → sent < 2 ^ 16 → device < 2 ^ 16 → (line : List ℕ) → words_of line ≡ codes "down" ∷ decimal sent ∷ decimal device ∷ []
    → form_of line ≡ Some (down_form sent device)
unfolding form_of word
down_spelled sent device small low line words = rw (words, read_back sent small, read_back device low) refl

up_spelled : (uplink : ℕ) → uplink < 2 ^ 16 → (line : List ℕ) → words_of line ≡ codes "up" ∷ decimal uplink ∷ [] → form_of line ≡ Some (Up uplink)
unfolding form_of word
up_spelled uplink small line words = rw (words, read_back uplink small) refl

end_spelled : (line : List ℕ) → words_of line ≡ codes "end" ∷ [] → form_of line ≡ Some End
unfolding form_of word
end_spelled line words = rw words refl

-- ---- the lines

pub reads_header : Reads (codes "fuota 1\n") (Header ∷ [])
reads_header = reads_words (codes "fuota") (codes "1" ∷ []) Header refl (refl, tt) (lit≤ tt) header_spelled

pub reads_image : Reads (codes "image 64 128\n") (Image 64 128 0 ∷ [])
reads_image = reads_words (codes "image") (codes "64" ∷ codes "128" ∷ []) (Image 64 128 0) refl (refl, (refl, tt)) (lit≤ tt) image_spelled

pub reads_device : (device offset : ℕ) → device < 2 ^ 16 → offset < 2 ^ 16 → Reads (device_line device offset) (device_form device offset ∷ [])
reads_device device offset low small =
    let a = digits_few device low in
    let b = digits_few offset small in
    reads_words (codes "device") (decimal device ∷ codes "c" ∷ codes "1" ∷ codes "64" ∷ decimal offset ∷ codes "00000000000000000000000000000000" ∷ []) (device_form device offset)
    refl (decimal_word device low, (refl, (refl, (refl, (decimal_word offset small, (refl, tt)))))) (simp length-append (omega (arith, a, b))) (device_spelled device offset low small)

pub reads_ask : (device : ℕ) → device < 2 ^ 16 → Reads (ask_line device) (Ask device ∷ [])
reads_ask device low =
    let a = digits_few device low in
    reads_words (codes "ask") (decimal device ∷ []) (Ask device) refl (decimal_word device low, tt) (simp length-append (omega (arith, a))) (ask_spelled device low)

pub reads_frag : Reads (codes "frag\n") (Frag ∷ [])
reads_frag = reads_words (codes "frag") [] Frag refl tt (lit≤ tt) frag_spelled

pub reads_down : (sent device : ℕ) → sent < 2 ^ 16 → device < 2 ^ 16 → Reads (down_line sent device) (down_form sent device ∷ [])
reads_down sent device small low =
    let a = digits_few sent small in
    let b = digits_few device low in
    reads_words (codes "down") (decimal sent ∷ decimal device ∷ []) (down_form sent device) refl (decimal_word sent small, (decimal_word device low, tt))
    (simp length-append (omega (arith, a, b))) (down_spelled sent device small low)

pub reads_up : (uplink : ℕ) → uplink < 2 ^ 16 → Reads (up_line uplink) (Up uplink ∷ [])
reads_up uplink small =
    let a = digits_few uplink small in
    reads_words (codes "up") (decimal uplink ∷ []) (Up uplink) refl (decimal_word uplink small, tt) (simp length-append (omega (arith, a))) (up_spelled uplink small)

pub reads_end : Reads (codes "end\n") (End ∷ [])
reads_end = reads_words (codes "end") [] End refl tt (lit≤ tt) end_spelled
