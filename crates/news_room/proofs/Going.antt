-- A step of a room, said otherwise, and one step behind another: what a crash leaves and what is in doubt.
use Rattle.std.proofs.Common.{◌≡◌, ◌⊎◌, inl, inr, ⊎_elim, Bool, true, false, List, [], ◌∷◌, ◌++◌, refl, sym, ap, ◌∙◌, subst, append_assoc}
use Rattle.news_types.specs.declared.entry.Entry.{Entry}
use Rattle.news_types.specs.Names.{Bytes}
use Rattle.news_types.specs.History.{History}
use Rattle.news_types.specs.Books.{Book, followed_by, onto}
use Rattle.news_types.proofs.Books.{behind_more, onto_more}
use Rattle.news_io.specs.Left.{IsLeft, Between}
use Rattle.news_io.proofs.Runs.{elapses_weaker, elapses_then}
use Rattle.news_io.specs.Keeper.{KeeperMeaning, KeeperGains}
use Rattle.entry_codec.specs.Spelling.{entry_bytes}
use Rattle.news_room.specs.Log.{Opens}
use Rattle.news_room.specs.Stands.{Stands, in_doubt}
use Rattle.news_room.specs.Steps.{still, DoubtsKept, DoubtStep, CrashLeaves, ToldStep, After}
use Rattle.news_room.specs.declared.room.Room.{Room}
use Rattle.news_room.proofs.Steps.{joined, longer}

-- ---- doubts

-- what is left of a doubt is of it
pub still_less : (D : Bytes → Type 0) (more : List Entry) (payload : Bytes) → still D more payload → D payload
still_less D [] payload left = left
still_less D (e ∷ es) payload left = absurd left

still_then : (D E : Bytes → Type 0) (m m' : List Entry) (payload : Bytes) → DoubtsKept D E m → still E m' payload → still D (m ++ m') payload
still_then D E [] [] payload one left = one payload left
still_then D E [] (e ∷ es) payload one left = left
still_then D E (e ∷ es) [] payload one left = one payload left
still_then D E (e ∷ es) (x ∷ xs) payload one left = left

doubt_then : (D E F : Bytes → Type 0) (s s' m m' : List Entry) (failed : Bool) → m ≡ s → DoubtsKept D E m → DoubtStep E F s' m' failed → DoubtStep D F (s ++ s') (m ++ m') failed
doubt_then D E F s s' m m' true is one two = λ payload d.
    elim (two payload d) [
      | inl old ↦ inl (still_then D E m m' payload one old)
      | inr tried ↦ inr (tried.0, tried.1, joined s s' m m' tried.0 tried.1 is tried.2, tried.3, tried.4)
    ]
doubt_then D E F s s' m m' false is one two = λ payload d. still_then D E m m' payload one (two payload d)

doubt_longer : (D E : Bytes → Type 0) (s t m : List Entry) (failed : Bool) → DoubtStep D E s m failed → DoubtStep D E (s ++ t) m failed
doubt_longer D E s t m true step = λ payload d.
    elim (step payload d) [ inl old ↦ inl old | inr tried ↦ inr (tried.0, tried.1 ++ t, longer s t m tried.0 tried.1 tried.2, tried.3, tried.4) ]
doubt_longer D E s t m false step = step

-- what is in doubt behind a step that did not fail was in doubt before, at the same list
doubt_was : (D E : Bytes → Type 0) (m : List Entry) (h : History) (payload : Bytes) → DoubtsKept D E m → E payload → (followed_by m h ≡ h) × D payload
doubt_was D E [] h payload one now = (refl, one payload now)
doubt_was D E (e ∷ es) h payload one now = absurd (one payload now)

-- ---- crashes

module _ {T C : Type 0} (opens : C → List T → Type 0) where
  left_weaker : (h : List T) (D E : T → Type 0) (found : C) → ((e : T) → D e → E e) → IsLeft opens h D found → IsLeft opens h E found
  left_weaker h D E found f left = ⊎_elim (λ is. inl is) (λ more. inr (more.0, f more.0 more.1, more.2)) left

  between_longer : (h g k : List T) (D E F : T → Type 0) (found : C) → (more : List T) × (k ≡ more ++ g) → ((e : T) → E e → (g ≡ h) × D e) → Between opens h g D E found → Between opens h k D F found
  between_longer h g k D E F found more calm b = record {
    part = b.part;
    behind = b.behind;
    left = left_weaker b.part (λ e. ((b.part ≡ h) × D e) ⊎ ((b.part ≡ g) × E e)) (λ e. ((b.part ≡ h) × D e) ⊎ ((b.part ≡ k) × F e)) found
        (λ e. ⊎_elim (λ was. inl was) (λ mid. inl (mid.0 ∙ (calm e mid.1).0, (calm e mid.1).1))) b.left;
    within = (more.0 ++ b.within.0, more.1 ∙ ap (λ (l : List T). more.0 ++ l) b.within.1 ∙ sym (append_assoc more.0 b.within.0 b.part));
  }

  between_later : (h g k : List T) (D E F : T → Type 0) (found : C) → (more : List T) × (g ≡ more ++ h) → ((e : T) → E e → (g ≡ h) × D e) → Between opens g k E F found → Between opens h k D F found
  between_later h g k D E F found more calm b = record {
    part = b.part;
    within = b.within;
    left = left_weaker b.part (λ e. ((b.part ≡ g) × E e) ⊎ ((b.part ≡ k) × F e)) (λ e. ((b.part ≡ h) × D e) ⊎ ((b.part ≡ k) × F e)) found
        (λ e. ⊎_elim (λ mid. inl (mid.0 ∙ (calm e mid.1).0, (calm e mid.1).1)) (λ now. inr now)) b.left;
    behind = (b.behind.0 ++ more.0, b.behind.1 ∙ ap (λ (l : List T). b.behind.0 ++ l) more.1 ∙ sym (append_assoc b.behind.0 more.0 h));
  }

-- a list with more, the newest first
followed_is : (m : List Entry) (h : History) → (added : List Entry) × (followed_by m h ≡ added ++ h)
followed_is [] h = ([], refl)
followed_is (e ∷ es) h = let rest = followed_is es (e ∷ h) in (rest.0 ++ e ∷ [], rest.1 ∙ sym (append_assoc rest.0 (e ∷ []) h))

module _ {K : Type 0} (keeper : KeeperMeaning K) where
  crash_then : (r s t : Room K) (b : Book) (m m' : List Entry) → CrashLeaves keeper r s b m → CrashLeaves keeper s t (onto m b) m' → DoubtsKept (keeper.doubts r.keeper) (keeper.doubts s.keeper) m → CrashLeaves keeper r t b (m ++ m')
  crash_then r s t b m m' one two less =
      let h : History = b.list in
      let g : History = followed_by m h in
      let k : History = followed_by m' g in
      let D : Entry → Type 0 = in_doubt keeper r in
      let E : Entry → Type 0 = in_doubt keeper s in
      let F : Entry → Type 0 = in_doubt keeper t in
      let calm : (e : Entry) → E e → (g ≡ h) × D e = λ e now.
      let was = doubt_was (keeper.doubts r.keeper) (keeper.doubts s.keeper) m h (entry_bytes e) less now.1 in (was.0, (now.0, was.1)) in
      subst (λ (l : History). KeeperGains keeper r.keeper t.keeper (Between Opens h l D F)) (behind_more m m' h)
      (elapses_then _ _ _ _ _ _ (Between Opens h k D F)
      (elapses_weaker _ _ _ _ (Between Opens h g D E) (Between Opens h k D F) one (λ found x. between_longer Opens h g k D E F found (followed_is m' g) calm x))
      (elapses_weaker _ _ _ _ (Between Opens g k E F) (Between Opens h k D F) two (λ found x. between_later Opens h g k D E F found (followed_is m h) calm x)))

  told_then : (r s t : Room K) (b : Book) (l l' m m' : List Entry) (failed : Bool) → m ≡ l → ToldStep keeper r s b l m false → ToldStep keeper s t (onto m b) l' m' failed → ToldStep keeper r t b (l ++ l') (m ++ m') failed
  told_then r s t b l l' m m' failed is one two = record {
    crash = crash_then r s t b m m' one.crash two.crash one.doubt;
    doubt = doubt_then (keeper.doubts r.keeper) (keeper.doubts s.keeper) (keeper.doubts t.keeper) l l' m m' failed is one.doubt two.doubt;
  }

-- ---- a step of a room

module _ {K : Type 0} (keeper : KeeperMeaning K) where
  -- another step of the same room
  pub after_as : (r s : Room K) (b : Book) (l m : List Entry) (failed : Bool) (S T : Type 0) → After keeper r s b l m failed S → T → After keeper r s b l m failed T
  after_as r s b l m failed S T a step = record { stands = a.stands; did = step; told = a.told }

  -- what should follow, said otherwise
  pub after_should : (r s : Room K) (b : Book) (l k m : List Entry) (failed : Bool) (S T : Type 0) → l ≡ k → After keeper r s b l m failed S → T → After keeper r s b k m failed T
  after_should r s b l k m failed S T same a step = record { stands = a.stands; did = step; told = λ t. subst (λ (x : List Entry). ToldStep keeper r s b x m failed) same (a.told t) }

  -- more should have followed
  pub after_longer : (r s : Room K) (b : Book) (l k m : List Entry) (failed : Bool) (S T : Type 0) → After keeper r s b l m failed S → T → After keeper r s b (l ++ k) m failed T
  after_longer r s b l k m failed S T a step = record {
    stands = a.stands;
    did = step;
    told = λ t. let was = a.told t in record { crash = was.crash; doubt = doubt_longer (keeper.doubts r.keeper) (keeper.doubts s.keeper) l k m failed was.doubt };
  }

  -- one step behind another, of which all was kept
  pub after_then : (r s t : Room K) (b : Book) (l k m n : List Entry) (failed : Bool) (S U T : Type 0) → m ≡ l → After keeper r s b l m false S → After keeper s t (onto m b) k n failed U → T → After keeper r t b (l ++ k) (m ++ n) failed T
  after_then r s t b l k m n failed S U T is one two step = record {
    stands = subst (λ (d : Book). Stands keeper t d) (onto_more m n b) two.stands;
    did = step;
    told = λ told. told_then keeper r s t b l k m n failed is (one.told told) (two.told told);
  }
