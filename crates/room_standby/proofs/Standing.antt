-- What a standby stands for, once the next record was kept or failed to be.
use Rattle.std.proofs.Common.{Some, ◌≡◌, ◌≤◌, ◌<◌, ◌+◌, min, List, [], ◌∷◌, ◌++◌, length, All, sym, ap, subst, ◌∙◌, arith, length-append}
use Rattle.std.proofs.lemmas.List.{map-append, length-map}
use Rattle.std.proofs.lemmas.List.Elements.{All-append, All-cons, All-nil}
use Rattle.news_types.specs.declared.entry.Entry.{Entry}
use Rattle.news_types.specs.Names.{Bytes}
use Rattle.news_types.specs.History.{History}
use Rattle.news_types.specs.Calls.{IsKept, IsFull, IsFailed}
use Rattle.news_types.specs.Server.{put}
use Rattle.news_types.specs.Doubt.{DoubtsAfter, payloads}
use Rattle.news_types.proofs.Doubt.{within_after}
use Rattle.news_io.specs.declared.record.Record.{Record}
use Rattle.news_io.specs.Keeper.{KeeperMeaning}
use Rattle.entry_codec.specs.Spelling.{entry_bytes}
use Rattle.entry_codec.specs.Formed.{IsEntry}
use Rattle.room_standby.specs.declared.standby.Standby.{Standby}
use Rattle.room_standby.specs.Holds.{bytes_of, AreOf, Followed, IsPlace, Keeps, Holds}
use Rattle.news_room.proofs.Lists.{counted}

-- as many records as entries
pub as_many : (records : List Record) (h : History) → AreOf records h → length records ≡ length h
as_many records h a = sym (length-map records bytes_of) ∙ ap length a.are ∙ counted h

pub one_more : (records : List Record) (h : History) (r : Record) (e : Entry) → AreOf records h → IsEntry e → r.bytes ≡ entry_bytes e → AreOf (records ++ r ∷ []) (e ∷ h)
one_more records h r e a entry is = record {
  are = map-append bytes_of records (r ∷ []) ∙ ap (λ (l : List Bytes). l ++ r.bytes ∷ []) a.are ∙ ap (λ (x : Bytes). payloads entry_bytes h ++ x ∷ []) is;
  entries = (entry, a.entries);
}

module _ {K : Type 0} (keeper : KeeperMeaning K) where
  pub count_is : (r : Standby K) (b : Followed) → Holds keeper r b → length r.records.items ≡ length b.standby.list
  count_is r b h = as_many r.records.items b.standby.list h.records

  module _ (r next : Standby K) (b : Followed) (h : Holds keeper r b) (e : Entry) (entry : IsEntry e) (told : keeper.tells r.keeper → keeper.tells next.keeper) where
    -- the next record was kept
    pub holds_kept : (here : Record) → here.bytes ≡ entry_bytes e → here.at < 4294967296 → next.records.items ≡ r.records.items ++ here ∷ []
        → keeper.used r.keeper + 5 ≤ keeper.used next.keeper → keeper.used next.keeper ≤ 1073741824
        → (keeper.tells r.keeper → keeper.list next.keeper ≡ keeper.list r.keeper ++ entry_bytes e ∷ []) → (keeper.tells r.keeper → DoubtsAfter (keeper.doubts r.keeper) (keeper.doubts next.keeper) (entry_bytes e) IsKept)
        → Holds keeper next (record { told = b.told; standby = put b.standby (Some e) IsKept })
    holds_kept here is place more used limit grown sure = record {
      records = subst (λ (rs : List Record). AreOf rs (e ∷ b.standby.list)) (sym more) (one_more r.records.items b.standby.list here e h.records entry is);
      doubtful = tt;
      places = subst (All IsPlace) (sym more) (All-append IsPlace r.records.items (here ∷ []) h.places (All-cons IsPlace here [] place (All-nil IsPlace)));
      few = omega (arith, h.few, ap length more, length-append r.records.items (here ∷ []), used, limit);
      kept = λ t. let k = h.kept t in record {
        told = told k.told;
        is = grown k.told ∙ ap (λ (l : List Bytes). l ++ entry_bytes e ∷ []) k.is;
        doubts = within_after entry_bytes (keeper.doubts r.keeper) (keeper.doubts next.keeper) b.standby e IsKept k.doubts (sure k.told);
      };
    }

    module _ (same : next.records.items ≡ r.records.items) (used : keeper.used next.keeper ≡ keeper.used r.keeper) (list : keeper.tells r.keeper → keeper.list next.keeper ≡ keeper.list r.keeper) where
      records_still : AreOf next.records.items b.standby.list
      records_still = subst (λ (rs : List Record). AreOf rs b.standby.list) (sym same) h.records

      places_still : All IsPlace next.records.items
      places_still = subst (All IsPlace) (sym same) h.places

      few_still : length next.records.items ≤ 1073741823 + min (keeper.used next.keeper) 1073741824
      few_still = rw (used, same) h.few

      -- it failed to be kept
      pub holds_failed : (keeper.tells r.keeper → DoubtsAfter (keeper.doubts r.keeper) (keeper.doubts next.keeper) (entry_bytes e) IsFailed)
          → Holds keeper next (record { told = b.told; standby = put b.standby (Some e) IsFailed })
      holds_failed doubt = record {
        records = records_still;
        doubtful = (entry, h.doubtful);
        places = places_still;
        few = few_still;
        kept = λ t. let k = h.kept t in record {
          told = told k.told;
          is = list k.told ∙ k.is;
          doubts = within_after entry_bytes (keeper.doubts r.keeper) (keeper.doubts next.keeper) b.standby e IsFailed k.doubts (doubt k.told);
        };
      }

      -- there was no room for it
      pub holds_full : (keeper.tells r.keeper → DoubtsAfter (keeper.doubts r.keeper) (keeper.doubts next.keeper) (entry_bytes e) IsFull)
          → Holds keeper next (record { told = b.told; standby = put b.standby (Some e) IsFull })
      holds_full doubt = record {
        records = records_still;
        doubtful = h.doubtful;
        places = places_still;
        few = few_still;
        kept = λ t. let k = h.kept t in record {
          told = told k.told;
          is = list k.told ∙ k.is;
          doubts = within_after entry_bytes (keeper.doubts r.keeper) (keeper.doubts next.keeper) b.standby e IsFull k.doubts (doubt k.told);
        };
      }

  -- nothing was tried: the keeper is as before, and the records are
  pub holds_on : (r next : Standby K) (b : Followed) → Holds keeper r b → next.records.items ≡ r.records.items → next.keeper ≡ r.keeper → Holds keeper next b
  holds_on r next b h same still = record {
    records = subst (λ (rs : List Record). AreOf rs b.standby.list) (sym same) h.records;
    doubtful = h.doubtful;
    places = subst (All IsPlace) (sym same) h.places;
    few = rw (still, same) h.few;
    kept = λ t. subst (λ (k : K). Keeps keeper k b.standby) (sym still) (h.kept t);
  }
