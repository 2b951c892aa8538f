-- A piece of a file that is read in several calls.
use Rattle.std.proofs.Common.{◌≡◌, ℕ, ◌+◌, ◌≤◌, List, ◌++◌, length, take, drop, refl, sym, ◌∙◌, ap, subst, arith, append_assoc, length-append, take-append-drop}
use Rattle.std.proofs.lemmas.List.{take_at, take-take, drop-take, length-take-le, length-drop}
use Rattle.news_io.proofs.Runs.{elapses_same, elapses_weaker, elapses_then}
use Rattle.news_journal.specs.Opened.{Still}
use Rattle.news_io.specs.Disk.{DiskMeaning}
use borrow.Rule.Slice.PartMut.{put_mid, post_of}

two_parts : (S : List ℕ) (done n : ℕ) → take done S ++ take n (drop done S) ≡ take (done + n) S
two_parts S done n =
    ap (λ (l : List ℕ). l ++ take n (drop done S)) (sym (take-take done (done + n) S (omega arith)))
    ∙ ap (λ (l : List ℕ). take done (take (done + n) S) ++ l) (sym (drop-take done n S))
    ∙ take-append-drop done (take (done + n) S)

pub one_more_piece : (S into piece old : List ℕ) (done n k : ℕ) → done ≤ length S → n ≤ length (drop done S) → take done into ≡ take done S → piece ≡ take n (drop done S) ++ old → take (done + n) (put_mid done k into piece) ≡ take (done + n) S
one_more_piece S into piece old done n k fits more so_far is =
    let post = post_of done k into in
    let whole : put_mid done k into piece ≡ (take done S ++ take n (drop done S)) ++ (old ++ post) =
    ap (λ (l : List ℕ). l ++ (piece ++ post)) so_far
    ∙ ap (λ (l : List ℕ). take done S ++ (l ++ post)) is
    ∙ ap (λ (l : List ℕ). take done S ++ l) (append_assoc (take n (drop done S)) old post)
    ∙ sym (append_assoc (take done S) (take n (drop done S)) (old ++ post)) in
    ap (λ (l : List ℕ). take (done + n) l) whole
    ∙ take_at (take done S ++ take n (drop done S)) (old ++ post) (done + n) (omega (arith, length-append (take done S) (take n (drop done S)), length-take-le done S fits, length-take-le n (drop done S) more))
    ∙ two_parts S done n

pub one_more_read : (S X into piece old : List ℕ) (done n k : ℕ) → X ≡ drop done S → done ≤ length S → n ≤ length X → take done into ≡ take done S → piece ≡ take n X ++ old
    → (done + n ≤ length S) × (take (done + n) (put_mid done k into piece) ≡ take (done + n) S)
one_more_read S X into piece old done n k same fits more so_far is =
    let more' : n ≤ length (drop done S) = subst (λ (l : List ℕ). n ≤ length l) same more in
    (omega (arith, more', length-drop done S), one_more_piece S into piece old done n k fits more' so_far (is ∙ ap (λ (l : List ℕ). take n l ++ old) same))

module _ {D : Type 0} (disk : DiskMeaning D) where
  pub still_same : (d : D) → Still disk d d
  still_same d = record { told = λ t. t; seen_same = refl; crash = λ c h. h; time = elapses_same _ _ _ }

  pub still_then : (old mid new : D) → Still disk old mid → Still disk mid new → Still disk old new
  still_then old mid new a b = record {
    told = λ t. b.told (a.told t);
    seen_same = b.seen_same ∙ a.seen_same;
    crash = λ c h. a.crash c (b.crash c h);
    time = elapses_then _ _ _ _ _ _ _ a.time (elapses_weaker _ _ _ _ _ _ b.time a.crash);
  }
