-- What became of a member that was begun.
use Rattle.std.proofs.Common.{◌≡◌, ◌⊎◌, inl, inr, ℕ, suc, List, [], ◌∷◌, ◌++◌, Option, Some, None, refl, sym, ap, ◌∙◌, subst}
use Rattle.news_types.specs.declared.entry.Entry.{Entry}
use Rattle.news_types.specs.History.{History}
use Rattle.news_types.specs.Calls.{Fate, IsKept, IsFull, IsFailed, IsStarved, list_after, doubt_after}
use Rattle.line_run.specs.Life.{Outcome}
use Rattle.line_run.specs.Step.{IsNext}
use Rattle.line_run.specs.Turns.{ByLog, Begun}
use Rattle.line_run.specs.declared.ending.Ending.{Ending}
use Rattle.line_run.specs.declared.ending.Ending.TheVariants as end
use Rattle.news_room.specs.Steps.{entries}
use Rattle.program_run.specs.Members.{MayFare}
use Rattle.program_events.specs.Leads.{IsOneOf}

-- ---- lists of one

pub never_there : (xs : List Entry) (e : Entry) (rest : List Entry) → [] ≡ xs ++ e ∷ rest → ⊥
never_there [] e rest is = cc
never_there (x ∷ xs) e rest is = cc

both_empty : (xs ys : List Entry) → [] ≡ xs ++ ys → [] ≡ ys
both_empty [] ys is = is
both_empty (x ∷ xs) ys is = absurd (cc is)

-- what ends a list of one is nothing, or the whole
one_part : (e : Entry) (later part : List Entry) → e ∷ [] ≡ later ++ part → (part ≡ []) ⊎ (part ≡ e ∷ [])
one_part e [] part is = inr (sym is)
one_part e (x ∷ later) part is = let rest : [] ≡ later ++ part = cc in inl (sym (both_empty later part rest))

only_one : (e d : Entry) (later : List Entry) → e ∷ [] ≡ later ++ d ∷ [] → d ≡ e
only_one e d [] is = cc
only_one e d (x ∷ later) is = let rest : [] ≡ later ++ d ∷ [] = cc in absurd (never_there later d [] rest)

not_both : (e d : Entry) (later : List Entry) → e ∷ [] ≡ later ++ d ∷ e ∷ [] → ⊥
not_both e d [] is = let rest : [] ≡ e ∷ [] = cc in cc
not_both e d (x ∷ later) is = let rest : [] ≡ later ++ d ∷ e ∷ [] = cc in never_there later d (e ∷ []) rest

-- ---- how an entry may have fared

may_keep : (why : Ending) → (ByLog why → ⊥) → MayFare why IsKept
may_keep end.Store other = absurd (other tt)
may_keep end.Full other = absurd (other tt)
may_keep end.Read other = inl refl
may_keep end.Write other = inl refl
may_keep end.Memory other = inl refl
may_keep end.TooLong other = inl refl

-- what became of a line whose entry this is, if one follows: what was kept, and what is in doubt
pub record Fared (o : Option Entry) (why : Ending) (part : List Entry) (D D' : Entry → Type 0) : Type 0 where
  pub fate : Fate
  pub may : MayFare why fate
  pub kept : Option Entry
  pub part_is : part ≡ entries kept
  -- an entry that should follow and was kept, or none
  pub sure : part ≡ entries o → fate ≡ IsKept
  pub list : (g : History) → list_after g o fate ≡ entries kept ++ g
  pub doubt : (doubt : List Entry) → ((e : Entry) → D e → (part ≡ []) × IsOneOf doubt e) → (e : Entry) → D' e → IsOneOf (doubt_after doubt o fate) e

module _ (outcome : Outcome Entry) (why : Ending) (part : List Entry) (said took : List ℕ) (D D' : Entry → Type 0) (b : Begun outcome why part said took D D') where
  -- nothing follows
  none_fared : outcome.adds ≡ [] → Fared None why part D D'
  none_fared adds =
      let whole : [] ≡ b.entries.0 ++ part = sym adds ∙ b.entries.1 in
      let unkept : ByLog why → ⊥ = λ by. let n = b.unkept by in never_there n.1.0 n.0 part (sym adds ∙ n.1.1) in
      record {
        fate = IsKept;
        may = may_keep why unkept;
        kept = None;
        part_is = sym (both_empty b.entries.0 part whole);
        sure = λ is. refl;
        list = λ g. refl;
        doubt = λ doubt was e d. elim (b.doubt e d) [ inl old ↦ (was e old).1 | inr tried ↦ absurd (never_there tried.1.0 e part (sym adds ∙ tried.1.1)) ];
      }

  -- the entry was kept
  kept_fared : (e : Entry) → outcome.adds ≡ e ∷ [] → part ≡ e ∷ [] → Fared (Some e) why part D D'
  kept_fared e adds is =
      let unkept : (d : Entry) → IsNext outcome.adds part d → ⊥ = λ d n. not_both e d n.0 (sym adds ∙ n.1 ∙ ap (λ (l : List Entry). n.0 ++ d ∷ l) is) in
      record {
        fate = IsKept;
        may = may_keep why (λ by. let n = b.unkept by in unkept n.0 n.1);
        kept = Some e;
        part_is = is;
        sure = λ same. refl;
        list = λ g. refl;
        doubt = λ doubt was d new. elim (b.doubt d new) [ inl old ↦ absurd (cc (sym is ∙ (was d old).0)) | inr tried ↦ absurd (unkept d tried.1) ];
      }

  -- it was not, and the store did not fail at it
  lost_fared : (fate : Fate) (e : Entry) → MayFare why fate → ((g : History) → list_after g (Some e) fate ≡ g) → ((doubt : List Entry) → doubt_after doubt (Some e) fate ≡ doubt) → (why ≡ end.Store → ⊥) → part ≡ [] → Fared (Some e) why part D D'
  lost_fared fate e may list same calm is = record {
    fate = fate;
    may = may;
    kept = None;
    part_is = is;
    sure = λ same. absurd (cc (sym is ∙ same));
    list = list;
    doubt = λ doubt was d new. subst (λ (l : List Entry). IsOneOf l d) (sym (same doubt)) (elim (b.doubt d new) [ inl old ↦ (was d old).1 | inr tried ↦ absurd (calm tried.0) ]);
  }

  -- the store failed at it
  failed_fared : (e : Entry) → outcome.adds ≡ e ∷ [] → why ≡ end.Store → part ≡ [] → Fared (Some e) why part D D'
  failed_fared e adds failed is = record {
    fate = IsFailed;
    may = subst (λ (x : Ending). MayFare x IsFailed) (sym failed) refl;
    kept = None;
    part_is = is;
    sure = λ same. absurd (cc (sym is ∙ same));
    list = λ g. refl;
    doubt = λ doubt was d new. elim (b.doubt d new) [
      | inl old ↦ let at = (was d old).1 in (suc at.0, at.1)
      | inr tried ↦ (0, ap (λ (x : Entry). Some x) (sym (only_one e d tried.1.0 (sym adds ∙ tried.1.1 ∙ ap (λ (l : List Entry). tried.1.0 ++ d ∷ l) is))))
    ];
  }

  unkept_fared : (e : Entry) → outcome.adds ≡ e ∷ [] → (x : Ending) → why ≡ x → part ≡ [] → Fared (Some e) why part D D'
  unkept_fared e adds end.Store same is = failed_fared e adds same is
  unkept_fared e adds end.Full same is = lost_fared IsFull e (subst (λ (x : Ending). MayFare x IsFull) (sym same) refl) (λ g. refl) (λ doubt. refl) (λ other. absurd (cc (sym same ∙ other))) is
  unkept_fared e adds end.Read same is = lost_fared IsStarved e (subst (λ (x : Ending). MayFare x IsStarved) (sym same) (inr refl)) (λ g. refl) (λ doubt. refl) (λ other. absurd (cc (sym same ∙ other))) is
  unkept_fared e adds end.Write same is = lost_fared IsStarved e (subst (λ (x : Ending). MayFare x IsStarved) (sym same) (inr refl)) (λ g. refl) (λ doubt. refl) (λ other. absurd (cc (sym same ∙ other))) is
  unkept_fared e adds end.Memory same is = lost_fared IsStarved e (subst (λ (x : Ending). MayFare x IsStarved) (sym same) (inr refl)) (λ g. refl) (λ doubt. refl) (λ other. absurd (cc (sym same ∙ other))) is
  unkept_fared e adds end.TooLong same is = lost_fared IsStarved e (subst (λ (x : Ending). MayFare x IsStarved) (sym same) (inr refl)) (λ g. refl) (λ doubt. refl) (λ other. absurd (cc (sym same ∙ other))) is

  pub begun_fared : (o : Option Entry) → outcome.adds ≡ entries o → Fared o why part D D'
  begun_fared None adds = none_fared adds
  begun_fared (Some e) adds =
      elim (one_part e b.entries.0 part (sym adds ∙ b.entries.1)) [
        | inl none ↦ unkept_fared e adds why refl none
        | inr whole ↦ kept_fared e adds whole
      ]

  -- where the log ended it, an entry follows, and it is the one that was left
  next_of : (o : Option Entry) → outcome.adds ≡ entries o → (e : Entry) → IsNext outcome.adds part e → o ≡ Some e
  next_of None adds e n = absurd (never_there n.0 e part (sym adds ∙ n.1))
  next_of (Some x) adds e n = elim (one_part x b.entries.0 part (sym adds ∙ b.entries.1)) [
    | inl none ↦ ap (λ (d : Entry). Some d) (sym (only_one x e n.0 (sym adds ∙ n.1 ∙ ap (λ (l : List Entry). n.0 ++ e ∷ l) none)))
    | inr whole ↦ absurd (not_both x e n.0 (sym adds ∙ n.1 ∙ ap (λ (l : List Entry). n.0 ++ e ∷ l) whole))
  ]

  pub lost_next : (o : Option Entry) → outcome.adds ≡ entries o → ByLog why → (e : Entry) × (o ≡ Some e)
  lost_next o adds by = let n = b.unkept by in (n.0, next_of o adds n.0 n.1)
