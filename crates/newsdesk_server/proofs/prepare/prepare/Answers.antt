use Rattle.std.proofs.Common.{◌≡◌, ◌∙◌, ◌++◌, ◌∷◌, List, [], All, map, inl, inr, refl, sym, ap, subst, arith}
use Rattle.news_room.specs.Stands.{Stands}
use Rattle.news_room.specs.declared.room.Room.{Room}
use Rattle.news_types.specs.declared.entry.Entry.{Entry}
use Rattle.room_lock.specs.declared.pass.Pass.{Pass}
use Rattle.room_lock.specs.Locks.{id_of}
use Rattle.server_roles.specs.declared.job.Job.{Job}
use Rattle.newsdesk_server.specs.Workers.{IsNewPass, pass_of, clock_of, link_of}
use Rattle.newsdesk_server.proofs.Dealt.{all_of_map, first_removed}
use Rattle.newsdesk_server.proofs.prepare.prepare.Goals as goal

-- the room uses too much
pub returns-then-size-gt-MOST-clause-held : goal.returns-then-size-gt-MOST-clause-held
returns-then-size-gt-MOST-clause-held g c =
    let e = c.held.ensures in record {
      why = inl (e.0, omega (arith, c.size.ensures, c.if-size-gt-MOST.true), e.1);
      door_is = e.2;
      links_are = e.3;
      more = [];
      stands = λ b is. subst (λ (r : Room g.row.K.Denot). Stands g.K.Keeper.keeper r b) (sym e.1) is;
    }

-- no memory for the roles
pub returns-in-Err-clause-held : goal.returns-in-Err-clause-held
returns-in-Err-clause-held g c =
    let e = c.held-in-Err.ensures in record {
      why = inr (e.0, omega (arith, c.size.ensures, c.if-size-gt-MOST.false));
      door_is = e.2;
      links_are = e.3;
      more = [];
      stands = λ b is. subst (λ (r : Room g.row.K.Denot). Stands g.K.Keeper.keeper r b) (sym e.1) is;
    }

-- none for the lock
pub returns-in-Err-new-clause-held : goal.returns-in-Err-new-clause-held
returns-in-Err-new-clause-held g c = record {
  why = inr (refl, omega (arith, c.size.ensures, c.if-size-gt-MOST.false));
  door_is = refl;
  links_are = refl;
  more = [];
  stands = λ b is. subst (λ (r : Room g.row.K.Denot). Stands g.K.Keeper.keeper r b) (sym (sym c.in-Err-new.room-is ∙ c.in-Err-new.ensures.memory)) is;
}

-- none for a pass
pub returns-then-len-count-clause-held : goal.returns-then-len-count-clause-held
returns-then-len-count-clause-held g c =
    let closed = c.close_at_last.ensures.room in
    let made = c.in-Ok-new.ensures in record {
      why = inr (refl, omega (arith, c.size.ensures, c.if-size-gt-MOST.false));
      door_is = refl;
      links_are = refl;
      more = closed.0;
      stands = λ b is. closed.2 b (subst (λ (r : Room g.row.K.Denot). Stands g.K.Keeper.keeper r b) (sym made.start) is);
    }

pub returns-clause-ready : goal.returns-clause-ready
returns-clause-ready g c =
    let J : Type 0 = Job g.row.C.Denot g.row.L.Denot in
    let made = c.in-Ok-new.ensures in
    let space = c.in-Ok.ensures in
    let split = c.split_off-pass.ensures in
    let kept = split.pass in
    let dealt = c.deal.ensures.jobs in
    let id = id_of c.in-Ok-new.made.0 in
    let New : Pass → Type 0 = λ p. IsNewPass id [] p in
    let passes : All New c.split_off-pass.result.1.items = subst (λ (l : List Entry). All (λ (p : Pass). IsNewPass id l p) c.split_off-pass.result.1.items) made.pass.1 split.made in
    let all : All (λ (j : J). New (pass_of j)) dealt.0 = all_of_map New pass_of dealt.0 (subst (λ (l : List Pass). All New l) (sym dealt.2) passes) in
    let are : c.deal.result.items ≡ dealt.0 = dealt.1 ∙ ap (λ (l : List J). l ++ dealt.0) space.no_jobs in record {
      small = omega (arith, c.size.ensures, c.if-size-gt-MOST.false);
      start = made.start;
      base = made.base;
      pass = record { lock_is = kept.0; front_is = kept.1 ∙ made.pass.1; calls_are = kept.2 ∙ made.pass.2 };
      passes = subst (λ (l : List J). All (λ (j : J). New (pass_of j)) l) (sym are) all;
      clocks = first_removed _ _ _ (omega (arith, c.requires.clocks)) c.remove-clock.ensures.value c.remove-clock.ensures.by_index.2
          ∙ ap (λ l. c.remove-clock.result ∷ l) (sym dealt.3 ∙ ap (λ (l : List J). map clock_of l) (sym are));
      links = sym dealt.4 ∙ ap (λ (l : List J). map link_of l) (sym are);
      door = refl;
      none_done = space.none_done;
      no_links = space.no_links;
      room_done = omega (arith, c.deal.ensures.len.0, space.jobs_len, space.done, c.len-count.ensures);
      room_links = omega (arith, c.deal.ensures.len.0, space.jobs_len, space.links_len, space.links, c.len-count.ensures);
    }
