-- What a session of the server's shows while it hears fragments of the image.
use Rattle.std.proofs.Common.{◌≡◌, ◌≢◌, ◌⊎◌, inl, inr, ℕ, ◌+◌, ◌-◌, ◌^◌, ◌<◌, ◌≤◌, List, [], ◌∷◌, ◌++◌, length, get_or, All, refl, sym, ap, ◌∙◌, subst, arith}
use Rattle.std.specs.List.{AllByRecursion}
use Rattle.std.proofs.lemmas.List.Elements.{recursion_from_All, All-get_or}
use Rattle.frag_model.specs.Fragments.{Fragment, Shape, IsPiece, IsUncoded, line_of, pieces_at, xor_all}
use Rattle.frag_model.specs.Gain.{gain, gain_of, gain_of_lines, numbers_of, direct, excess}
use Rattle.frag_model.specs.Laws.{AreNumbered}
use Rattle.frag_model.specs.Verdict.{Verdict, receiving, complete, no_rows, conflict, verdict, first_verdict, IsVerdict, IsVerdictNow, TwoBlocksFit}
use Rattle.frag_model.proofs.Enough.{enough_after, gain-most}
use Rattle.frag_model.proofs.Uncoded.{excess-uncoded, line_of_piece, xor_all_piece}
use Rattle.frag_model.proofs.Uniqueness.{unique_at_full_gain}
use Rattle.frag_model.proofs.Verdicts.{verdict-right}
use Rattle.frag_encoder.specs.Encoding.{nb_frag_of, data_of, block_of}
use Rattle.frag_encoder.proofs.Blocks.{block_shaped}
use Rattle.frag_session.specs.declared.answers.Verdict.TheVariants as shown
use Rattle.frag_session.specs.Session.{Session, seen_of, shape_of, shown_verdict}
use Rattle.frag_session.proofs.FirstMoments.{decided_at_first}
use Rattle.frag_session.proofs.FirstMoments.{shown_receiving}
use Rattle.frag_session.proofs.MissingPieces.{missing_pieces}
use Rattle.campaign_laws.specs.Headline.{IsFragmentOf, IsRecovered}
use Rattle.campaign_laws.proofs.HeadlineCommands.{Cut}
use Rattle.campaign_laws.proofs.HeadlineEnds.{IsSetFor, shape_for}
use Rattle.campaign_laws.proofs.HeadlineImage.{behind}
use Rattle.campaign_laws.proofs.HeadlineLaw.{recovered_by}

-- how a seed's image is cut
abbrev pub cut : Cut
cut = record { size = 64; index = 0; mask = 0 }

-- ---- what is missing

-- where two blocks fit, not all is gained
some_lacking : (shape : Shape) (heard : List Fragment) → AreNumbered heard
    → (first : List (List ℕ)) (second : List (List ℕ)) → TwoBlocksFit shape heard first second → 1 ≤ shape.nb_frag - gain shape heard
some_lacking shape heard numbered first second two =
    let most = gain-most shape heard numbered in
    let apart : gain shape heard ≢ shape.nb_frag = λ full. two.differ (unique_at_full_gain shape heard second first numbered full two.other two.one) in
    omega (arith, most, apart)

receiving_lacks : (shape : Shape) (f : Fragment) (older : List Fragment) → AreNumbered (f ∷ older) → IsVerdict shape (f ∷ older) receiving → 1 ≤ shape.nb_frag - gain shape (f ∷ older)
unfolding IsVerdict IsVerdictNow
receiving_lacks shape f older numbered (inl stayed) = absurd (stayed.1 refl)
receiving_lacks shape f older numbered (inr right) = some_lacking shape (f ∷ older) numbered right.1.1.0 right.1.1.1 right.1.1.2

-- while it receives, something is
some_left : (shape : Shape) (heard : List Fragment) → AreNumbered heard → 1 ≤ shape.nb_frag → verdict shape heard ≡ receiving → 1 ≤ shape.nb_frag - gain shape heard
unfolding gain gain_of gain_of_lines numbers_of
some_left shape [] numbered some is = omega (arith, some)
some_left shape (f ∷ older) numbered some is =
    receiving_lacks shape f older numbered (subst (IsVerdict shape (f ∷ older)) is (verdict-right shape (f ∷ older)))

-- ---- a session of the server's

-- its setup is the server's, its rows are 64, and it heard fragments of the image
pub record IsOurs (image : List ℕ) (x : Session) : Type 0 where
  pub set : IsSetFor image cut x
  pub rows : x.rows ≡ 64

recovered_is : (image : List ℕ) (its : Cut) (x : Session) → All (λ b. b < 2 ^ 8) image → IsSetFor image its x → IsRecovered image x
recovered_is image its x bytes set =
    let h = shape_for image its x bytes set in
    recovered_by image x h.0 (subst (λ (n : ℕ). AllByRecursion (IsFragmentOf image n) x.heard) (sym h.1) set.heard)

pub complete_is_image : (image : List ℕ) (x : Session) (mark : ℕ) → All (λ b. b < 2 ^ 8) image → IsOurs image x → (seen_of x).verdict ≡ shown.Complete mark → (seen_of x).file ≡ image
complete_is_image image x mark bytes ours is = (recovered_is image cut x bytes ours.set).shown mark is

fragments_numbered : (image : List ℕ) (size : ℕ) (heard : List Fragment) → AllByRecursion (IsFragmentOf image size) heard → AreNumbered heard
fragments_numbered image size [] all = tt
fragments_numbered image size (f ∷ heard) all = (all.0.first, fragments_numbered image size heard all.1)

pub something_missing : (image : List ℕ) (its : Cut) (x : Session) → All (λ b. b < 2 ^ 8) image → IsSetFor image its x → (seen_of x).verdict ≡ shown.Receiving → 1 ≤ (seen_of x).missing
unfolding seen_of shape_of
something_missing image its x bytes set is =
    rw (missing_pieces.receiving x is)
    (some_left (shape_of x) x.heard (fragments_numbered image its.size x.heard set.heard) (shape_for image its x bytes set).0.makes.some
    (shown_receiving (verdict (shape_of x) x.heard) is))

pub nothing_missing : (x : Session) (mark : ℕ) → (seen_of x).verdict ≡ shown.Complete mark → (seen_of x).missing ≡ 0
nothing_missing x mark is = missing_pieces.complete x mark is

-- ---- enough rows

parted : (xs ys us vs : List Fragment) → xs ++ ys ≡ us ++ vs → ((k : List Fragment) × (vs ≡ k ++ ys)) ⊎ ((k : List Fragment) × (ys ≡ k ++ vs))
parted xs ys [] vs is = inl (xs, sym is)
parted [] ys (u ∷ us) vs is = inr (u ∷ us, is)
parted (x ∷ xs) ys (u ∷ us) vs is = parted xs ys us vs (let tails : xs ++ ys ≡ us ++ vs = cc in tails)

front : (P : Fragment → Type 0) (newer older : List Fragment) → AllByRecursion P (newer ++ older) → AllByRecursion P newer
front P [] older all = tt
front P (f ∷ newer) older all = (all.0, front P newer older all.1)

-- the excess passes the rows nowhere
no_excess : (shape : Shape) (heard newer older ours theirs : List Fragment) → AreNumbered heard → heard ≡ newer ++ older → AllByRecursion (IsUncoded shape) older
    → shape.nb_frag ≤ direct shape older + shape.rows → heard ≡ ours ++ theirs → excess shape theirs ≤ shape.rows
no_excess shape heard newer older ours theirs numbered here uncoded enough there = by (parted newer older ours theirs (sym here ∙ there))
  where
    by : ((k : List Fragment) × (theirs ≡ k ++ older)) ⊎ ((k : List Fragment) × (older ≡ k ++ theirs)) → excess shape theirs ≤ shape.rows
    by (inl (k, is)) =
        let all : AreNumbered theirs = behind (λ (f : Fragment). 1 ≤ f.number) ours theirs (subst AreNumbered there numbered) in
        let k_all : AreNumbered k = front (λ (f : Fragment). 1 ≤ f.number) k older (subst AreNumbered is all) in
        subst (λ (fs : List Fragment). excess shape fs ≤ shape.rows) (sym is) (enough_after shape k older uncoded enough k_all)
    by (inr (k, is)) =
        let none = excess-uncoded shape theirs (behind (IsUncoded shape) k theirs (subst (AllByRecursion (IsUncoded shape)) is uncoded)) in
        omega (arith, none)

-- where at most as many pieces as rows were unheard at the first coded fragment, the rows suffice
pub rows_suffice : (image : List ℕ) (x : Session) (newer older : List Fragment) (mark : ℕ) → All (λ b. b < 2 ^ 8) image → IsOurs image x → x.heard ≡ newer ++ older
    → AllByRecursion (IsUncoded (shape_of x)) older → (shape_of x).nb_frag ≤ direct (shape_of x) older + 64 → (seen_of x).verdict ≢ shown.NoRows mark
unfolding shape_of
rows_suffice image x newer older mark bytes ours here uncoded enough is =
    let at = ((decided_at_first x (shape_for image cut x bytes ours.set).0.makes).no_rows mark).0 is in
    let low = no_excess (shape_of x) x.heard newer older at.0 (at.1 ∷ at.2) (fragments_numbered image 64 x.heard ours.set.heard) here uncoded
    (omega (arith, enough, ours.rows)) at.3.parted in
    omega (arith, at.3.now.over, low)

pub no_conflict : (image : List ℕ) (its : Cut) (x : Session) (mark : ℕ) → All (λ b. b < 2 ^ 8) image → IsSetFor image its x → (seen_of x).verdict ≢ shown.Conflict mark
no_conflict image its x mark bytes set = (recovered_is image its x bytes set).agrees mark

-- ---- an uncoded fragment of the image

piece_of : (image : List ℕ) (n : ℕ) → All (λ b. b < 2 ^ 8) image → 1 ≤ n → n ≤ nb_frag_of (length image) 64 → IsPiece 64 (data_of image 64 n)
unfolding data_of
piece_of image n bytes low high =
    let block : List (List ℕ) = block_of image 64 in
    let shaped = block_shaped image 64 64 (omega arith) bytes in
    let inside : n - 1 < length block = omega (arith, shaped.counted, low, high) in
    let same : xor_all 64 (pieces_at (line_of (nb_frag_of (length image) 64) n) block) ≡ get_or block (n - 1) [] =
    xor_all_piece 64 (n - 1) (line_of (nb_frag_of (length image) 64) n) block (line_of_piece (nb_frag_of (length image) 64) n high) inside
    (recursion_from_All (IsPiece 64) block shaped.pieces) in
    subst (IsPiece 64) (sym same) (All-get_or (IsPiece 64) block (n - 1) [] inside shaped.pieces)

pub uncoded_is : (image : List ℕ) (x : Session) (f : Fragment) → All (λ b. b < 2 ^ 8) image → IsOurs image x → IsFragmentOf image 64 f
    → f.number ≤ nb_frag_of (length image) 64 → IsUncoded (shape_of x) f
uncoded_is image x f bytes ours fragment high =
    let h = shape_for image cut x bytes ours.set in
    let count : (shape_of x).nb_frag ≡ nb_frag_of (length image) 64 = h.0.count ∙ ap (nb_frag_of (length image)) h.1 in
    record {
      first = fragment.first;
      last = omega (arith, count, high);
      piece = subst (λ (n : ℕ). IsPiece n f.part) (sym h.1) (subst (IsPiece 64) (sym fragment.part) (piece_of image f.number bytes fragment.first high));
    }

-- ---- a verdict stays

stays_by : (shape : Shape) (padding mark : ℕ) (v next : Verdict) → shown_verdict v ≡ shown.Complete mark → shown_verdict (first_verdict v next) ≡ shown.Complete mark
unfolding first_verdict shown_verdict
stays_by shape padding mark receiving next is = absurd cc
stays_by shape padding mark (complete at block) next is = is
stays_by shape padding mark (no_rows at) next is = absurd cc
stays_by shape padding mark (conflict at) next is = absurd cc
