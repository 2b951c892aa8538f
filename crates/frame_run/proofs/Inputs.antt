-- The frames of an input, from what stands first in its bytes.
use Rattle.std.proofs.Common.{◌≡◌, ⊎_elim, ℕ, ◌+◌, ◌<◌, ◌≤◌, List, [], ◌∷◌, ◌++◌, length, take, drop, refl, sym, ◌∙◌, ap, subst, arith, append_assoc}
use Rattle.std.proofs.lemmas.Bool.{cases_lt}
use Rattle.std.proofs.lemmas.List.{append-nil, length-append, length-take, take_all, take_at, take-take, take-append-le, take-append-drop}
use Rattle.std.proofs.lemmas.List.Concat.{flat_map-append}
use Rattle.std.specs.List.{flat_map}
use Rattle.news_types.specs.Names.{Bytes}
use Rattle.news_types.specs.Frames.{Frame}
use Rattle.byte_formats.specs.Lawful.{Begins}
use Rattle.byte_formats.proofs.Laws.{ok_is}
use Rattle.feed_receiver.specs.declared.frame.FirstFrame.{FirstFrame}
use Rattle.feed_receiver.specs.declared.frame.FirstFrame.TheVariants.{Whole, Bad, Cut}
use Rattle.feed_receiver.specs.Spelling.{frame_bytes, IsFrame}
use Rattle.feed_receiver.specs.Formats.{frame}
use Rattle.feed_receiver.specs.Reads.{IsFirst}
use Rattle.feed_receiver.proofs.Written.{frame_lawful}
use Rattle.frame_run.specs.Input.{AllFit, AreFrames, NoneIsWhole, HasBegun, IsBadAt}
use Rattle.frame_run.specs.Run.{IsBadByte, IsNext}

-- ---- frames behind frames

fit_then : (xs ys : List Frame) → AllFit xs → AllFit ys → AllFit (xs ++ ys)
fit_then [] ys a b = b
fit_then (f ∷ xs) ys a b = (a.0, fit_then xs ys a.1 b)

pub frames_none : (bytes : Bytes) → AreFrames bytes [] bytes
frames_none bytes = record { is = refl; fit = tt }

pub frames_one : (rest more : Bytes) (f : Frame) → IsFrame f → rest ≡ frame_bytes f ++ more → AreFrames rest (f ∷ []) more
frames_one rest more f form is = record { is = is ∙ ap (λ (l : Bytes). l ++ more) (sym (append-nil (frame_bytes f))); fit = (form, tt) }

pub frames_then : (bytes mid rest : Bytes) (xs ys : List Frame) → AreFrames bytes xs mid → AreFrames mid ys rest → AreFrames bytes (xs ++ ys) rest
frames_then bytes mid rest xs ys a b = record {
  is = a.is ∙ ap (λ (l : Bytes). flat_map frame_bytes xs ++ l) b.is ∙ sym (append_assoc (flat_map frame_bytes xs) (flat_map frame_bytes ys) rest)
      ∙ ap (λ (l : Bytes). l ++ rest) (sym (flat_map-append frame_bytes xs ys));
  fit = fit_then xs ys a.fit b.fit;
}

pub frames_on : (bytes rest more : Bytes) (frames : List Frame) → AreFrames bytes frames rest → AreFrames (bytes ++ more) frames (rest ++ more)
frames_on bytes rest more frames a = record { is = ap (λ (l : Bytes). l ++ more) a.is ∙ append_assoc (flat_map frame_bytes frames) rest more; fit = a.fit }

-- ---- what stands first

pub frame_some : (f : Frame) → 0 < length (frame_bytes f)
frame_some f = omega arith

pub begun_none : HasBegun []
begun_none = record {
  begins = record { value = frame_lawful.some; fits = frame_lawful.some_fits; more = frame_bytes frame_lawful.some; is = refl };
  none = λ f more form is. absurd (omega (arith, frame_some f, ap length is, length-append (frame_bytes f) more));
}

-- the first bytes of a frame begin it
begins : (bytes more : Bytes) (n : ℕ) (f : Frame) → IsFrame f → bytes ≡ frame_bytes f ++ more → n ≤ length (frame_bytes f) → Begins frame_bytes IsFrame (take n bytes)
begins bytes more n f form is le = record {
  value = f;
  fits = form;
  more = drop n (frame_bytes f);
  is = sym (take-append-drop n (frame_bytes f)) ∙ ap (λ (l : Bytes). l ++ drop n (frame_bytes f)) (sym (take-append-le n (frame_bytes f) more le) ∙ ap (λ (l : Bytes). take n l) (sym is));
}

-- a frame at the front of the first bytes, or past them
front_of : (bytes more : Bytes) (n : ℕ) (f : Frame) → n ≤ length bytes → bytes ≡ frame_bytes f ++ more → length (frame_bytes f) ≤ n → (rest : Bytes) × (take n bytes ≡ frame_bytes f ++ rest)
front_of bytes more n f within is le =
    let long : length (frame_bytes f) ≤ length (take n bytes) = omega (arith, le, within, length-take n bytes) in
    let front : take (length (frame_bytes f)) (take n bytes) ≡ frame_bytes f =
    take-take (length (frame_bytes f)) n bytes le ∙ ap (λ (l : Bytes). take (length (frame_bytes f)) l) is ∙ take_at (frame_bytes f) more (length (frame_bytes f)) refl in
    (drop (length (frame_bytes f)) (take n bytes), sym (take-append-drop (length (frame_bytes f)) (take n bytes)) ∙ ap (λ (l : Bytes). l ++ drop (length (frame_bytes f)) (take n bytes)) front)

-- without a whole frame before the place there is none
none_whole : (bytes : Bytes) (at : ℕ) → at < length bytes → NoneIsWhole (take at bytes) → (Begins frame_bytes IsFrame (take (at + 1) bytes) → ⊥) → NoneIsWhole bytes
none_whole bytes at within none here f more form is =
    ⊎_elim
    (λ (lt : at < length (frame_bytes f)). here (begins bytes more (at + 1) f form is (omega (arith, lt))))
    (λ (le : length (frame_bytes f) ≤ at). let front = front_of bytes more at f (omega (arith, within)) is le in none f front.0 form front.1)
    (cases_lt at (length (frame_bytes f)))

pub first_next : (bytes : Bytes) (first : FirstFrame) → IsFirst bytes first → IsNext bytes first
first_next bytes (Whole size) first = (first.3, (first.0, record { form = first.1; is = first.2 }))
first_next bytes (Bad at) first = record { within = first.0; before = first.1; here = first.2; none = first.3 }
first_next bytes Cut first = record { begins = first.0; none = first.1 }

-- ---- a rest that is no frame

-- what follows mends no byte
bad_on : (rest more : Bytes) (at : ℕ) → IsBadByte rest at → IsBadByte (rest ++ more) at
bad_on rest more at bad =
    let within : at < length (rest ++ more) = omega (arith, bad.within, length-append rest more) in
    let front : take at (rest ++ more) ≡ take at rest = take-append-le at rest more (omega (arith, bad.within)) in
    let one : take (at + 1) (rest ++ more) ≡ take (at + 1) rest = take-append-le (at + 1) rest more (omega (arith, bad.within)) in
    let here : Begins frame_bytes IsFrame (take (at + 1) (rest ++ more)) → ⊥ = λ b. bad.here (subst (Begins frame_bytes IsFrame) one b) in
    let none : NoneIsWhole (take at (rest ++ more)) = λ f m form is. bad.none f (m ++ drop at rest) form
    (sym (take-append-drop at rest) ∙ ap (λ (l : Bytes). l ++ drop at rest) (sym front ∙ is) ∙ append_assoc (frame_bytes f) m (drop at rest)) in
    record { within = within; before = subst (Begins frame_bytes IsFrame) (sym front) bad.before; here = here; none = none_whole (rest ++ more) at within none here }

no_frame : (rest : Bytes) → NoneIsWhole rest → (f : Frame) → IsFrame f → frame_bytes f ≡ rest → ⊥
no_frame rest none f form is = none f [] form (sym is ∙ sym (append-nil (frame_bytes f)))

-- a byte shows it, whatever follows
pub bad_at_byte : (bytes more rest : Bytes) (frames : List Frame) (within at : ℕ) → AreFrames bytes frames rest → IsBadByte rest within → at + length rest ≡ length bytes + within → IsBadAt (bytes ++ more) frames at
bad_at_byte bytes more rest frames within at a bad place =
    let on = bad_on rest more within bad in
    record {
      rest = rest ++ more;
      are = frames_on bytes rest more frames a;
      some = omega (arith, on.within);
      none = on.none;
      within = within;
      fault = record { within = omega (arith, on.within); before = on.before; here = λ lt. on.here; none = no_frame (rest ++ more) on.none };
      place = omega (arith, place, length-append rest more, length-append bytes more);
    }

-- the end shows it
pub bad_at_end : (bytes rest : Bytes) (frames : List Frame) → AreFrames bytes frames rest → HasBegun rest → 0 < length rest → IsBadAt bytes frames (length bytes)
bad_at_end bytes rest frames a begun some = record {
  rest = rest;
  are = a;
  some = some;
  none = begun.none;
  within = length rest;
  fault = record {
    within = omega arith;
    before = subst (Begins frame_bytes IsFrame) (sym (take_all (length rest) rest (omega arith))) begun.begins;
    here = λ lt. absurd (omega (arith, lt));
    none = no_frame rest begun.none;
  };
  place = refl;
}

-- ---- an input is frames in one way

one_front : (f g : Frame) (x y : Bytes) → IsFrame f → IsFrame g → frame_bytes f ++ x ≡ frame_bytes g ++ y → x ≡ y
one_front f g x y p q is = ap (λ (z : Frame × Bytes). z.1) (ok_is (f, x) (g, y) (sym (frame_lawful.again f x p) ∙ ap frame.read is ∙ frame_lawful.again g y q))

no_rest : (xs ys : List Frame) (rest : Bytes) → AllFit xs → AllFit ys → flat_map frame_bytes xs ++ rest ≡ flat_map frame_bytes ys ++ [] → NoneIsWhole rest → rest ≡ []
no_rest [] [] rest a b is none = is
no_rest [] (g ∷ ys) rest a b is none = absurd (none g (flat_map frame_bytes ys ++ []) b.0 (is ∙ append_assoc (frame_bytes g) (flat_map frame_bytes ys) []))
no_rest (f ∷ xs) [] rest a b is none =
    absurd (omega (arith, frame_some f, ap length (sym (append_assoc (frame_bytes f) (flat_map frame_bytes xs) rest) ∙ is), length-append (frame_bytes f) (flat_map frame_bytes xs ++ rest)))
no_rest (f ∷ xs) (g ∷ ys) rest a b is none =
    no_rest xs ys rest a.1 b.1
    (one_front f g (flat_map frame_bytes xs ++ rest) (flat_map frame_bytes ys ++ []) a.0 b.0
    (sym (append_assoc (frame_bytes f) (flat_map frame_bytes xs) rest) ∙ is ∙ append_assoc (frame_bytes g) (flat_map frame_bytes ys) []))
    none

-- an input of whole frames goes on with no bad one
pub never_bad : (bytes : Bytes) (xs ys : List Frame) (at : ℕ) → AreFrames bytes ys [] → IsBadAt bytes xs at → ⊥
never_bad bytes xs ys at a bad = omega (arith, bad.some, ap length (no_rest xs ys bad.rest bad.are.fit a.fit (sym bad.are.is ∙ a.is) bad.none))
