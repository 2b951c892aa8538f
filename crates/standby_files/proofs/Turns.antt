-- Record lines answered behind record lines.
use Rattle.std.proofs.Common.{◌≡◌, ◌⊎◌, inl, inr, ⊎_elim, ℕ, ◌<◌, true, List, [], ◌∷◌, ◌++◌, length, refl, sym, ◌∙◌, ap, subst, arith, append_assoc}
use Rattle.std.proofs.lemmas.List.{append-nil, nil_from_length, length-append}
use Rattle.std.specs.Prelude.{Option}
use Rattle.news_types.specs.Names.{Bytes}
use Rattle.news_io.specs.Keeper.{KeeperMeaning, Leaves}
use Rattle.news_io.specs.Sink.{AreFirst, SinkMeaning}
use Rattle.news_io.proofs.Runs.{elapses_same, elapses_weaker, elapses_then}
use Rattle.run_status.specs.Output.{Wrote, AllPassed}
use Rattle.run_status.proofs.Tellings.{wrote_none, wrote_is}
use Rattle.line_run.proofs.Runs.{wrote_then}
use Rattle.std.proofs.lemmas.Bool.{cases_lt}
use Rattle.room_standby.specs.declared.standby.Standby.{Standby}
use Rattle.record_lines.specs.Spelling.{Numbered, record_bytes}
use Rattle.frame_run.specs.Answers.{ByLog}
use Rattle.standby_files.specs.Answers.{behind, behind_all, reply_to, replies, Copied, holding, Between, Stands, Kept, AnsweredAll, NextIs, AnsweredSome}
use Rattle.frame_run.specs.declared.ending.Ending.{Ending}
use Rattle.frame_run.specs.declared.ending.Ending.TheVariants as end

pub behind_then : (held : List Bytes) (xs ys : List Numbered) → behind_all held (xs ++ ys) ≡ behind_all (behind_all held xs) ys
behind_then held [] ys = refl
behind_then held (f ∷ xs) ys = behind_then (behind held f) xs ys

pub replies_then : (held : List Bytes) (xs ys : List Numbered) → replies held (xs ++ ys) ≡ replies held xs ++ replies (behind_all held xs) ys
replies_then held [] ys = refl
replies_then held (f ∷ xs) ys =
    ap (λ (l : Bytes). reply_to held f ++ l) (replies_then (behind held f) xs ys)
    ∙ sym (append_assoc (reply_to held f) (replies (behind held f) xs) (replies (behind_all (behind held f) xs) ys))

none_of : (n : ℕ) → (0 < n → ⊥) → n ≡ 0
none_of n none = ⊎_elim (λ lt. absurd (none lt)) (λ le. omega (arith, le)) (cases_lt 0 n)

-- what was in doubt at the joint stood behind the first list too
abbrev Quiet : List Bytes → List Bytes → (Bytes → Type 0) → (Bytes → Type 0) → Type 0
Quiet h g D E = (x : Bytes) → E x → (g ≡ h) × D x

leaves_weaker : (list : List Bytes) (D E : Bytes → Type 0) (found : Option (List Bytes)) → ((x : Bytes) → D x → E x) → Leaves list D found → Leaves list E found
leaves_weaker list D E found f left = ⊎_elim (λ all. inl all) (λ one. inr (one.0, f one.0 one.1, one.2)) left

between_longer : (h g k : List Bytes) (D E F : Bytes → Type 0) (found : Option (List Bytes)) → (more : List Bytes) × (k ≡ g ++ more) → Quiet h g D E → Between h g D E found → Between h k D F found
between_longer h g k D E F found more calm b = record {
  part = b.part;
  beyond = b.beyond;
  within = (b.within.0 ++ more.0, more.1 ∙ ap (λ (l : List Bytes). l ++ more.0) b.within.1 ∙ append_assoc b.part b.within.0 more.0);
  left = leaves_weaker (b.part) (λ x. ((b.part ≡ h) × D x) ⊎ ((b.part ≡ g) × E x)) (λ x. ((b.part ≡ h) × D x) ⊎ ((b.part ≡ k) × F x)) found
      (λ x. ⊎_elim (λ was. inl was) (λ mid. inl (mid.0 ∙ (calm x mid.1).0, (calm x mid.1).1))) b.left;
}

between_later : (h g k : List Bytes) (D E F : Bytes → Type 0) (found : Option (List Bytes)) → (more : List Bytes) × (g ≡ h ++ more) → Quiet h g D E → Between g k E F found → Between h k D F found
between_later h g k D E F found more calm b = record {
  part = b.part;
  beyond = (more.0 ++ b.beyond.0, b.beyond.1 ∙ ap (λ (l : List Bytes). l ++ b.beyond.0) more.1 ∙ append_assoc h more.0 b.beyond.0);
  within = b.within;
  left = leaves_weaker (b.part) (λ x. ((b.part ≡ g) × E x) ⊎ ((b.part ≡ k) × F x)) (λ x. ((b.part ≡ h) × D x) ⊎ ((b.part ≡ k) × F x)) found
      (λ x. ⊎_elim (λ mid. inl (mid.0 ∙ (calm x mid.1).0, (calm x mid.1).1)) (λ now. inr now)) b.left;
}

module _ {K : Type 0} (keeper : KeeperMeaning K) where
  pub kept_same : (it : Standby K) (b : Copied) → Stands keeper it b → Kept keeper it it b b.held
  kept_same it b h = record {
    stands = h;
    more = ([], sym (append-nil b.held));
    used = refl;
    label = refl;
    time = λ t. elapses_same (keeper.moment it.keeper) (keeper.left_since it.keeper) (Between b.held b.held (keeper.doubts it.keeper) (keeper.doubts it.keeper));
  }

  pub kept_then : (old mid new : Standby K) (b : Copied) (g k : List Bytes) → (b.told ≡ true → Quiet b.held g (keeper.doubts old.keeper) (keeper.doubts mid.keeper)) → Kept keeper old mid b g → Kept keeper mid new (holding g b) k → Kept keeper old new b k
  kept_then old mid new b g k calm first then =
      let D : Bytes → Type 0 = keeper.doubts old.keeper in
      let E : Bytes → Type 0 = keeper.doubts mid.keeper in
      let F : Bytes → Type 0 = keeper.doubts new.keeper in
      record {
        stands = then.stands;
        more = (first.more.0 ++ then.more.0, then.more.1 ∙ ap (λ (l : List Bytes). l ++ then.more.0) first.more.1 ∙ append_assoc b.held first.more.0 then.more.0);
        used = omega (arith, first.used, then.used);
        label = then.label ∙ first.label;
        time = λ t. elapses_then _ _ _ _ _ _ (Between b.held k D F)
            (elapses_weaker _ _ _ _ (Between b.held g D E) (Between b.held k D F) (first.time t) (λ found x. between_longer b.held g k D E F found then.more (calm t) x))
            (elapses_weaker _ _ _ _ (Between g k E F) (Between b.held k D F) (then.time t) (λ found x. between_later b.held g k D E F found first.more (calm t) x));
      }

module _ {K O : Type 0} (keeper : KeeperMeaning K) (sink : SinkMeaning O) where
  pub none_yet : (it : Standby K) (o : O) (b : Copied) → Stands keeper it b → AnsweredAll keeper sink it it o o b []
  none_yet it o b h = record { kept = kept_same keeper it b h; calm = λ t x d. (refl, d); wrote = wrote_none sink o; passed = λ t all. all }

  pub all_then : (old mid new : Standby K) (o o' o'' : O) (b : Copied) (xs ys : List Numbered) → AnsweredAll keeper sink old mid o o' b xs
      → AnsweredAll keeper sink mid new o' o'' (holding (behind_all b.held xs) b) ys → AnsweredAll keeper sink old new o o'' b (xs ++ ys)
  all_then old mid new o o' o'' b xs ys first then =
      let is : behind_all b.held (xs ++ ys) ≡ behind_all (behind_all b.held xs) ys = behind_then b.held xs ys in
      record {
        kept = subst (λ (l : List Bytes). Kept keeper old new b l) (sym is)
            (kept_then keeper old mid new b (behind_all b.held xs) (behind_all (behind_all b.held xs) ys) first.calm first.kept then.kept);
        calm = λ t x d. (is ∙ (then.calm t x d).0 ∙ (first.calm t x (then.calm t x d).1).0, (first.calm t x (then.calm t x d).1).1);
        wrote = wrote_is sink o o'' _ _ (sym (replies_then b.held xs ys)) (wrote_then sink o o' o'' _ _ first.wrote then.wrote);
        passed = λ t all. then.passed (first.wrote.told t) (first.passed t all);
      }

  -- what was in doubt at the joint
  next_then : (held : List Bytes) (rest : Bytes) (why : Ending) (now : List Bytes) (said : Bytes) (used : ℕ) (D E F : Bytes → Type 0) → ((x : Bytes) → F x → D x → E x)
      → NextIs held rest why now said used D F → NextIs held rest why now said used E F
  next_then held rest why now said used D E F f (inl n) = inl (record { list = n.list; bytes = n.bytes; other = n.other; calm = λ x d. f x d (n.calm x d) })
  next_then held rest why now said used D E F f (inr n) = inr (
    n.0,
    record {
      form = n.1.form;
      first = n.1.first;
      list = n.1.list;
      bytes = n.1.bytes;
      unkept = n.1.unkept;
      full = n.1.full;
      doubt = λ x d. ⊎_elim (λ was. inl (f x d was)) (λ now. inr now) (n.1.doubt x d);
    },
  )

  pub some_then : (old mid new : Standby K) (o o' o'' : O) (b : Copied) (xs ys : List Numbered) (rest : Bytes) (why : Ending) → AnsweredAll keeper sink old mid o o' b xs
      → AnsweredSome keeper sink mid new o' o'' (holding (behind_all b.held xs) b) ys rest why → AnsweredSome keeper sink old new o o'' b (xs ++ ys) rest why
  some_then old mid new o o' o'' b xs ys rest why first then =
      let g : List Bytes = behind_all b.held xs in
      let is : behind_all b.held (xs ++ ys) ≡ behind_all g ys = behind_then b.held xs ys in
      let said : replies b.held (xs ++ ys) ≡ replies b.held xs ++ replies g ys = replies_then b.held xs ys in
      record {
        now = then.now;
        said = then.said;
        next = subst (λ (l : List Bytes). NextIs l rest why then.now then.said (keeper.used new.keeper) (λ x. (then.now ≡ b.held) × keeper.doubts old.keeper x) (λ x. (b.told ≡ true) × keeper.doubts new.keeper x)) (sym is)
            (next_then (behind_all g ys) rest why then.now then.said (keeper.used new.keeper) (λ x. (then.now ≡ g) × keeper.doubts mid.keeper x) (λ x. (then.now ≡ b.held) × keeper.doubts old.keeper x)
            (λ x. (b.told ≡ true) × keeper.doubts new.keeper x) (λ x d was. (was.0 ∙ (first.calm d.0 x was.1).0, (first.calm d.0 x was.1).1)) then.next);
        half = then.half;
        kept = kept_then keeper old mid new b g then.now first.calm first.kept then.kept;
        wrote = wrote_is sink o o'' _ _ (sym (append_assoc (replies b.held xs) (replies g ys) then.said) ∙ ap (λ (l : Bytes). l ++ then.said) (sym said))
            (wrote_then sink o o' o'' _ _ first.wrote then.wrote);
        passed = λ t all. subst (λ (l : List ℕ). AreFirst l (sink.passed o''))
            (ap (λ (l : List ℕ). l ++ replies g ys) (first.wrote.bytes t) ∙ append_assoc (sink.taken o) (replies b.held xs) (replies g ys) ∙ ap (λ (l : Bytes). sink.taken o ++ l) (sym said))
            (then.passed (first.wrote.told t) (first.passed t all));
      }

  -- where something else ended it
  pub all_some : (old new : Standby K) (o o' : O) (b : Copied) (records : List Numbered) (rest : Bytes) (why : Ending) → (ByLog why → ⊥) → AnsweredAll keeper sink old new o o' b records → AnsweredSome keeper sink old new o o' b records rest why
  all_some old new o o' b records rest why other a = record {
    now = behind_all b.held records;
    said = [];
    next = inl (record { list = refl; bytes = refl; other = other; calm = λ x d. a.calm d.0 x d.1 });
    half = λ lt. absurd (omega (arith, lt));
    kept = a.kept;
    wrote = wrote_is sink o o' _ _ (sym (append-nil (replies b.held records))) a.wrote;
    passed = λ t all. ([], a.passed t all ∙ a.wrote.bytes t ∙ sym (append-nil (sink.taken o ++ replies b.held records)));
  }

  -- nothing was looked at, and the output may have passed on what it held back
  pub none_some : (it : Standby K) (o o' : O) (b : Copied) (rest : Bytes) (why : Ending) → (ByLog why → ⊥) → Stands keeper it b → Wrote sink o o' [] → (sink.tells o → AreFirst (sink.passed o) (sink.passed o'))
      → AnsweredSome keeper sink it it o o' b [] rest why
  none_some it o o' b rest why other h wrote kept = record {
    now = b.held;
    said = [];
    next = inl (record { list = refl; bytes = refl; other = other; calm = λ x d. (refl, d.1) });
    half = λ lt. absurd (omega (arith, lt));
    kept = kept_same keeper it b h;
    wrote = wrote;
    passed = λ t all. subst (λ (l : List ℕ). AreFirst l (sink.passed o')) (all ∙ sym (append-nil (sink.taken o))) (kept t);
  }

  -- what stands behind the rest changes nothing
  pub some_on : (old new : Standby K) (o o' : O) (b : Copied) (records : List Numbered) (rest more : Bytes) (why : Ending) → AnsweredSome keeper sink old new o o' b records rest why → AnsweredSome keeper sink old new o o' b records (rest ++ more) why
  some_on old new o o' b records rest more why a = record {
    now = a.now;
    said = a.said;
    next = ⊎_elim (λ none. inl none)
        (λ one. inr (
          one.0,
          record {
            form = one.1.form;
            first = (one.1.first.0 ++ more, ap (λ (l : Bytes). l ++ more) one.1.first.1 ∙ append_assoc (record_bytes one.0) one.1.first.0 more);
            list = one.1.list;
            bytes = one.1.bytes;
            unkept = one.1.unkept;
            full = one.1.full;
            doubt = one.1.doubt;
          },
        ))
        a.next;
    half = a.half;
    kept = a.kept;
    wrote = a.wrote;
    passed = a.passed;
  }

  -- what was written before passes on first
  pub all_begun : (old new : Standby K) (o o' o'' : O) (b : Copied) (records : List Numbered) → Wrote sink o o' [] → (sink.tells o → AllPassed sink o') → AnsweredAll keeper sink old new o' o'' b records → AnsweredAll keeper sink old new o o'' b records
  all_begun old new o o' o'' b records w first a = record { kept = a.kept; calm = a.calm; wrote = wrote_then sink o o' o'' [] _ w a.wrote; passed = λ t all. a.passed (w.told t) (first t) }

  pub some_begun : (old new : Standby K) (o o' o'' : O) (b : Copied) (records : List Numbered) (rest : Bytes) (why : Ending) → Wrote sink o o' [] → (sink.tells o → AllPassed sink o') → AnsweredSome keeper sink old new o' o'' b records rest why
      → AnsweredSome keeper sink old new o o'' b records rest why
  some_begun old new o o' o'' b records rest why w first a = record {
    now = a.now;
    said = a.said;
    next = a.next;
    half = a.half;
    kept = a.kept;
    wrote = wrote_then sink o o' o'' [] _ w a.wrote;
    passed = λ t all. subst (λ (l : List ℕ). AreFirst (l ++ replies b.held records) (sink.passed o'')) (w.bytes t ∙ append-nil (sink.taken o)) (a.passed (w.told t) (first t));
  }

  -- unless the output ended it, all replies are whole and have passed on
  pub some_passed : (old new : Standby K) (o o' : O) (b : Copied) (records : List Numbered) (rest : Bytes) (why : Ending) → (why ≡ end.Write → ⊥) → AnsweredSome keeper sink old new o o' b records rest why → sink.tells o → AllPassed sink o → AllPassed sink o'
  some_passed old new o o' b records rest why other a t all =
      let lines : Bytes = replies b.held records in
      let first : AreFirst (sink.taken o ++ lines) (sink.passed o') = a.passed t all in
      let order : AreFirst (sink.passed o') (sink.taken o') = sink.in_order o' (a.wrote.told t) in
      let none : length a.said ≡ 0 = none_of (length a.said) (λ lt. other (a.half lt)) in
      let left : length order.0 ≡ 0 = omega (
        arith,
        none,
        ap length (a.wrote.bytes t),
        ap length first.1,
        ap length order.1,
        length-append (sink.taken o) (lines ++ a.said),
        length-append lines a.said,
        length-append (sink.taken o ++ lines) first.0,
        length-append (sink.taken o) lines,
        length-append (sink.passed o') order.0,
      ) in
      sym (order.1 ∙ ap (λ (l : List ℕ). sink.passed o' ++ l) (nil_from_length order.0 left) ∙ append-nil (sink.passed o'))
