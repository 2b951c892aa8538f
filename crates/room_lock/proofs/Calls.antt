-- Calls in order, and two lists of calls put together.
use Rattle.std.proofs.Common.{ℕ, ◌≤◌, List, [], ◌∷◌, ◌++◌, length, Bool, true, false, cond, nat_lt, subst, sym, inl, inr, ⊎_elim, arith, lt-ltb, le-ltb}
use Rattle.std.specs.Prelude.{All}
use Rattle.std.proofs.lemmas.List.Elements.{All-nil, All-cons, All-head, All-tail, All-push, All-weaker}
use mathlib.Core.Logic.{dite}
use native.Mathlib.Decide.{dec_le}
use mathlib.Core.List.{IsPrefix}
use Rattle.news_types.specs.declared.entry.Entry.{Entry}
use Rattle.room_lock.specs.declared.view.Call.{Call}
use Rattle.room_lock.specs.Calls.{InOrder, Clear, AllClear, placed, merged, longer}
use Rattle.room_lock.proofs.Fronts.{prefix_self, prefix_shorter}

-- more room at the end
pub order_wider : (a : ℕ) (cs : List Call) (b e : ℕ) → InOrder a cs b → b ≤ e → InOrder a cs e
order_wider a [] b e o le = omega (arith, o)
order_wider a (c ∷ cs) b e o le = (o.0, o.1, order_wider c.to cs b e o.2 le)

-- more room at the start
pub order_sooner : (a b : ℕ) (cs : List Call) (n : ℕ) → a ≤ b → InOrder b cs n → InOrder a cs n
order_sooner a b [] n le o = omega arith
order_sooner a b (c ∷ cs) n le o = (omega (arith, o.0), o.1, o.2)

-- one call more
pub order_more : (a : ℕ) (cs : List Call) (b : ℕ) (c : Call) (e : ℕ) → InOrder a cs b → b ≤ c.from → c.from ≤ c.to → c.to ≤ e → InOrder a (cs ++ c ∷ []) e
order_more a [] b c e o from to end = (omega (arith, o), to, end)
order_more a (d ∷ ds) b c e o from to end = (o.0, o.1, order_more d.to ds b c e o.2 from to end)

-- calls begin no later than they end
pub order_length : (a : ℕ) (cs : List Call) (b : ℕ) → InOrder a cs b → a ≤ b
order_length a [] b o = o
order_length a (c ∷ cs) b o = let more = order_length c.to cs b o.2 in let f = o.0 in let t = o.1 in omega arith

-- the first of some calls
pub order_first : (a : ℕ) (cs ds : List Call) (n : ℕ) → InOrder a (cs ++ ds) n → InOrder a cs n
order_first a [] ds n o = order_length a ds n o
order_first a (c ∷ cs) ds n o = (o.0, o.1, order_first c.to cs ds n o.2)

-- and the others, which begin somewhere
pub order_last : (a : ℕ) (cs ds : List Call) (n : ℕ) → InOrder a (cs ++ ds) n → (m : ℕ) × InOrder m ds n
order_last a [] ds n o = (a, o)
order_last a (c ∷ cs) ds n o = order_last c.to cs ds n o.2

-- calls behind calls
pub order_append : (a : ℕ) (cs : List Call) (m : ℕ) (ds : List Call) (n : ℕ) → InOrder a cs m → InOrder m ds n → InOrder a (cs ++ ds) n
order_append a [] m ds n o p = order_sooner a m ds n o p
order_append a (c ∷ cs) m ds n o p = (o.0, o.1, order_append c.to cs m ds n o.2 p)

-- each call lies between the ends
abbrev pub Within : ℕ → ℕ → Call → Type 0
Within a b c = (a ≤ c.from) × (c.from ≤ c.to) × (c.to ≤ b)

pub all_within : (a : ℕ) (cs : List Call) (b : ℕ) → InOrder a cs b → All (Within a b) cs
all_within a [] b o = All-nil (Within a b)
all_within a (c ∷ cs) b o = let f = o.0 in let t = o.1 in let last = order_length c.to cs b o.2 in
    All-cons (Within a b) c cs (f, t, last) (All-weaker (Within c.to b) (Within a b) (λ d w. let g = w.0 in (omega arith, w.1, w.2)) cs (all_within c.to cs b o.2))

-- calls that end by n are clear of one that begins there
pub clear_last : (cs : List Call) (n : ℕ) (c : Call) → InOrder 0 cs n → n ≤ c.from → All (λ d. Clear d c) cs
clear_last cs n c o le = All-weaker (Within 0 n) (λ d. Clear d c) (λ d w. let e = w.2 in inl (omega arith)) cs (all_within 0 cs n o)

-- and it is clear of them
pub clear_first : (cs : List Call) (n : ℕ) (c : Call) → InOrder 0 cs n → n ≤ c.from → All (λ d. Clear c d) cs
clear_first cs n c o le = All-weaker (Within 0 n) (λ d. Clear c d) (λ d w. let e = w.2 in inr (omega arith)) cs (all_within 0 cs n o)

-- no calls are clear of any
pub clear_nothing : (cs : List Call) → AllClear [] cs
clear_nothing cs = All-nil (λ c. All (λ x. Clear c x) cs)

pub clear_none : (cs : List Call) → AllClear cs []
clear_none [] = All-nil (λ c. All (λ x. Clear c x) [])
clear_none (c ∷ cs) = All-cons (λ d. All (λ x. Clear d x) []) c cs (All-nil (λ x. Clear c x)) (clear_none cs)

-- a list clear of another and of one call is clear of both
clear_more : (cs ds : List Call) (d : Call) → AllClear cs ds → All (λ c. Clear c d) cs → AllClear cs (ds ++ d ∷ [])
clear_more [] ds d clear last = All-nil (λ c. All (λ x. Clear c x) (ds ++ d ∷ []))
clear_more (c ∷ cs) ds d clear last = All-cons (λ e. All (λ x. Clear e x) (ds ++ d ∷ [])) c cs
    (All-push (λ x. Clear c x) ds d (All-head (λ e. All (λ x. Clear e x) ds) c cs clear) (All-head (λ e. Clear e d) c cs last))
    (clear_more cs ds d (All-tail (λ e. All (λ x. Clear e x) ds) c cs clear) (All-tail (λ e. Clear e d) c cs last))

-- a list clear of another is clear of it with one call more, which begins where the list has ended
pub clear_push : (cs ds : List Call) (n : ℕ) (d : Call) → AllClear cs ds → InOrder 0 cs n → n ≤ d.from → AllClear cs (ds ++ d ∷ [])
clear_push cs ds n d clear o le = clear_more cs ds d clear (clear_last cs n d o le)

pub clear_pushed : (cs ds : List Call) (n : ℕ) (c : Call) → AllClear cs ds → InOrder 0 ds n → n ≤ c.from → AllClear (cs ++ c ∷ []) ds
clear_pushed cs ds n c clear o le = All-push (λ e. All (λ x. Clear e x) ds) cs c clear (clear_first ds n c o le)

module _ (P : Call → Type 0) where
  all_placed : (d : Call) (cs : List Call) → P d → All P cs → All P (placed d cs)
  all_placed d [] p all = All-cons P d [] p all
  all_placed d (c ∷ cs) p all = dite (dec_le c.to d.from)
      (λ le. subst (λ b. All P (cond b (d ∷ c ∷ cs) (c ∷ placed d cs))) (sym (le-ltb d.from c.to le)) (All-cons P c (placed d cs) (All-head P c cs all) (all_placed d cs p (All-tail P c cs all))))
      (λ not. subst (λ b. All P (cond b (d ∷ c ∷ cs) (c ∷ placed d cs))) (sym (lt-ltb d.from c.to (omega arith))) (All-cons P d (c ∷ cs) p all))

  pub all_merged : (cs ds : List Call) → All P cs → All P ds → All P (merged cs ds)
  all_merged cs [] all more = all
  all_merged cs (d ∷ ds) all more = all_merged (placed d cs) ds (all_placed d cs (All-head P d ds more) all) (All-tail P d ds more)

pub clear_merged : (cs ds es : List Call) → AllClear cs ds → AllClear cs es → AllClear cs (merged ds es)
clear_merged [] ds es one other = All-nil (λ c. All (λ x. Clear c x) (merged ds es))
clear_merged (c ∷ cs) ds es one other = All-cons (λ e. All (λ x. Clear e x) (merged ds es)) c cs
    (all_merged (λ x. Clear c x) ds es (All-head (λ e. All (λ x. Clear e x) ds) c cs one) (All-head (λ e. All (λ x. Clear e x) es) c cs other))
    (clear_merged cs ds es (All-tail (λ e. All (λ x. Clear e x) ds) c cs one) (All-tail (λ e. All (λ x. Clear e x) es) c cs other))

order_placed : (a : ℕ) (d : Call) (cs : List Call) (b : ℕ) → InOrder a cs b → a ≤ d.from → d.from ≤ d.to → d.to ≤ b → All (λ c. Clear c d) cs → InOrder a (placed d cs) b
order_placed a d [] b o from to end clear = (from, to, end)
order_placed a d (c ∷ cs) b o from to end clear = dite (dec_le c.to d.from)
    (λ le. subst (λ t. InOrder a (cond t (d ∷ c ∷ cs) (c ∷ placed d cs)) b) (sym (le-ltb d.from c.to le)) (o.0, o.1, order_placed c.to d cs b o.2 le to end (All-tail (λ e. Clear e d) c cs clear)))
    (λ not. subst (λ t. InOrder a (cond t (d ∷ c ∷ cs) (c ∷ placed d cs)) b) (sym (lt-ltb d.from c.to (omega arith)))
    (from, to, (⊎_elim (λ (x : c.to ≤ d.from). absurd (not x)) (λ (x : d.to ≤ c.from). x) (All-head (λ e. Clear e d) c cs clear), o.1, o.2)))

pub order_merged : (cs ds : List Call) (n : ℕ) → InOrder 0 cs n → InOrder 0 ds n → AllClear cs ds → InOrder 0 (merged cs ds) n
order_merged cs [] n o p clear = o
order_merged cs (d ∷ ds) n o p clear =
    let firsts : All (λ c. Clear c d) cs = All-weaker (λ c. All (λ x. Clear c x) (d ∷ ds)) (λ c. Clear c d) (λ c all. All-head (λ x. Clear c x) d ds all) cs clear in
    let rests : AllClear cs ds = All-weaker (λ c. All (λ x. Clear c x) (d ∷ ds)) (λ c. All (λ x. Clear c x) ds) (λ c all. All-tail (λ x. Clear c x) d ds all) cs clear in
    let behind : All (λ x. Clear d x) ds = All-weaker (Within d.to n) (λ x. Clear d x) (λ x w. inl w.0) ds (all_within d.to ds n p.2) in
    order_merged (placed d cs) ds n (order_placed 0 d cs n o p.0 p.1 (order_length d.to ds n p.2) firsts) (order_sooner 0 d.to ds n (omega arith) p.2)
    (all_placed (λ c. All (λ x. Clear c x) ds) d cs behind rests)

-- two beginnings of one list begin the longer of the two, which begins the list
pub longer_one : (xs ys zs : List Entry) → IsPrefix xs zs → IsPrefix ys zs → IsPrefix xs (longer xs ys) × IsPrefix ys (longer xs ys) × IsPrefix (longer xs ys) zs
longer_one xs ys zs p q = dite (dec_le (length ys) (length xs))
    (λ le. subst (λ b. IsPrefix xs (cond b ys xs) × IsPrefix ys (cond b ys xs) × IsPrefix (cond b ys xs) zs) (sym (le-ltb (length xs) (length ys) le)) (prefix_self xs, prefix_shorter ys xs zs q p le, p))
    (λ not. subst (λ b. IsPrefix xs (cond b ys xs) × IsPrefix ys (cond b ys xs) × IsPrefix (cond b ys xs) zs) (sym (lt-ltb (length xs) (length ys) (omega arith))) (prefix_shorter xs ys zs p q (omega arith), prefix_self ys, q))

-- what stands behind in two lists that are clear of one another
pub clear_behind : (ks cs ls ds : List Call) → AllClear (ks ++ cs) (ls ++ ds) → AllClear cs ds
clear_behind [] cs [] ds clear = clear
clear_behind [] cs (l ∷ ls) ds clear = clear_behind [] cs ls ds (All-weaker (λ c. All (λ x. Clear c x) (l ∷ (ls ++ ds))) (λ c. All (λ x. Clear c x) (ls ++ ds)) (λ c all. All-tail (λ x. Clear c x) l (ls ++ ds) all) cs clear)
clear_behind (k ∷ ks) cs ls ds clear = clear_behind ks cs ls ds (All-tail (λ c. All (λ x. Clear c x) (ls ++ ds)) k (ks ++ cs) clear)

module _ (P : Call → Type 0) where
  all_chosen : (d c : Call) (cs rest : List Call) (b : Bool) → (All P rest → P d × All P cs) → All P (cond b (d ∷ c ∷ cs) (c ∷ rest)) → P d × All P (c ∷ cs)
  all_chosen d c cs rest true f all = (All-head P d (c ∷ cs) all, All-tail P d (c ∷ cs) all)
  all_chosen d c cs rest false f all = let r = f (All-tail P c rest all) in (r.0, All-cons P c cs (All-head P c rest all) r.1)

  all_of_placed : (d : Call) (cs : List Call) → All P (placed d cs) → P d × All P cs
  all_of_placed d [] all = (All-head P d [] all, All-nil P)
  all_of_placed d (c ∷ cs) all = all_chosen d c cs (placed d cs) (nat_lt d.from c.to) (all_of_placed d cs) all

  -- what holds of all calls of two lists put together holds of those of both
  pub all_of_merged : (cs ds : List Call) → All P (merged cs ds) → All P cs × All P ds
  all_of_merged cs [] all = (all, All-nil P)
  all_of_merged cs (d ∷ ds) all = let r = all_of_merged (placed d cs) ds all in let q = all_of_placed d cs r.0 in (q.1, All-cons P d ds q.0 r.1)

-- a pass that was joined keeps clear of a third as both had
pub clear_of_merged : (cs ds es : List Call) → AllClear (merged cs ds) es → AllClear cs es × AllClear ds es
clear_of_merged cs ds es clear = all_of_merged (λ c. All (λ e. Clear c e) es) cs ds clear
