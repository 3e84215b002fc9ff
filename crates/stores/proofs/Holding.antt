-- What holds of every list store, by its invariant, and what the edits make of it.
use Rattle.std.proofs.Common.{◌≡◌, ℕ, suc, ◌-◌, ◌<◌, ◌≤◌, Some, None, Ok, Err, Result, OnErr, MatchResult, length, get_or, set, sym, ◌∙◌, subst, arith}
use Rattle.std.specs.List.{position}
use Rattle.std.proofs.lemmas.List.{get_or_read}
use Rattle.model.specs.declared.fault.Reason.{Reason}
use Rattle.stores.specs.declared.list.RecordList.{RecordList}
use Rattle.stores.specs.declared.record.Record.{Record}
use Rattle.stores.specs.Matrices.{on_names, written, count}
use Rattle.stores.specs.RecordLists.{records_of, in_use, list_cells, shown}
use Rattle.stores.specs.Records.{no_record, at, Of, is_of, Absent, Lists}
use Rattle.stores.proofs.Editing.{mask_changed, record_removed}
use Rattle.stores.proofs.Listing.{first, found_at, found_nowhere, of_absent, of_cell, lists_exactly, count_records}
use Rattle.stores.proofs.Writing.{empty_named, at_names}

pub long : (l : RecordList) → l.used ≤ length (records_of l)
long l = subst (λ n. l.used ≤ n) l.records.ok.0 l.room

pub exact : (l : RecordList) → Lists (in_use l) (shown l)
exact l = lists_exactly (records_of l) l.used (long l) l.full l.apart

-- the same where a list may also be as it was
pub kept_or_exact : {X : Type 0} (r : Result X Reason) (l before : RecordList) → OnErr r (l ≡ before) → MatchResult r (λ _. Lists (in_use l) (shown l)) (λ _. l ≡ before)
kept_or_exact (Ok x) l before kept = exact l
kept_or_exact (Err reason) l before kept = kept

pub used_is_count : (l : RecordList) → count (shown l) ≡ l.used
used_is_count l = count_records (records_of l) l.used (long l) l.full l.apart

-- what is read at a place in use
pub read_at : (l : RecordList) (i : ℕ) (r : Record) → i < l.used → r ≡ get_or (records_of l) i r → r ≡ at (records_of l) i
read_at l i r lt read = get_or_read (records_of l) i r (omega (arith, long l)) read no_record

-- what is found
pub found : (l : RecordList) (s o i : ℕ) → Some i ≡ position (is_of s o) (in_use l) → (i < l.used) × Of (at (records_of l) i) s o
found l s o i e = found_at (records_of l) l.used s o (long l) i (sym e)

pub missed : (l : RecordList) (s o : ℕ) → None ≡ position (is_of s o) (in_use l) → Absent (records_of l) l.used s o
missed l s o e = found_nowhere (records_of l) l.used s o (long l) (sym e)

pub cell_absent : (l : RecordList) (s o : ℕ) → Absent (records_of l) l.used s o → shown l s o ≡ 0
cell_absent l s o none = empty_named (list_cells l) s o (of_absent (records_of l) l.used s o (long l) none)

pub cell_present : (l : RecordList) (i s o : ℕ) → i < l.used → Of (at (records_of l) i) s o → shown l s o ≡ (at (records_of l) i).mask
cell_present l i s o lt of =
    at_names (list_cells l) s o (subst (λ n. n < 64) of.0 (l.full i lt).0) (subst (λ n. n < 64) of.1 (l.full i lt).1)
    ∙ of_cell (records_of l) l.used i s o (long l) l.apart lt of

pub list_changed : (l : RecordList) (i m : ℕ) (r : Record) → i < l.used → r ≡ at (records_of l) i → on_names (first (set (records_of l) i (record { row = r.row; column = r.column; mask = m })) l.used) ≡ written (shown l) (at (records_of l) i).row (at (records_of l) i).column m
list_changed l i m r lt here = rw here (mask_changed (records_of l) l.used i m (long l) l.full l.apart lt)

pub list_removed : (l : RecordList) (i : ℕ) (r : Record) → i < l.used → r ≡ at (records_of l) (l.used - 1) → on_names (first (set (records_of l) i r) (l.used - 1)) ≡ written (shown l) (at (records_of l) i).row (at (records_of l) i).column 0
list_removed l i r lt here =
    let k = l.used - 1 in
    let n : suc k ≡ l.used = omega arith in
    rw here
    (subst (λ (m : ℕ). on_names (first (set (records_of l) i (at (records_of l) k)) k) ≡ written (on_names (first (records_of l) m)) (at (records_of l) i).row (at (records_of l) i).column 0) n
    (record_removed (records_of l) k i (omega (arith, long l)) (λ j h. l.full j (omega arith)) (λ a b ab h. l.apart a b ab (omega arith)) (omega arith)))
