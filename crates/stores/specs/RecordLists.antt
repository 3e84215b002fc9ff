-- A list store by what its memory holds.
use Rattle.std.specs.Prelude.{ℕ, Bool, cond, ◌&&◌, List, take, vec_items, vec_len, nat_le}
use Rattle.model.specs.Answers.{Answer, accepted, refused}
use Rattle.stores.specs.declared.list.RecordList.{RecordList}
use Rattle.stores.specs.declared.record.Record.{Record}
use Rattle.stores.specs.Matrices.{Matrix, on_names}
use Rattle.stores.specs.Records.{matrix_of}

abbrev pub fits_list : (records : ℕ) → Bool
fits_list n = nat_le 1 n && nat_le n 4096

-- If a list can have so many records, the call is done; else it is refused in layer 7, the parts, by number 23.
abbrev pub if_list : {X : Type 0} → (records : ℕ) → (done : X) → Answer X
if_list n done = cond (fits_list n) (accepted done) (refused 7 23 0)

-- all records, in use or not
abbrev pub records_of : RecordList → List Record
records_of l = vec_items l.records

-- the records in use
abbrev pub in_use : RecordList → List Record
in_use l = take l.used (records_of l)

-- all records, and among them those in use
abbrev pub contents : RecordList → List Record × List Record
contents l = (records_of l, in_use l)

abbrev pub list_cells : RecordList → Matrix
list_cells l = matrix_of (in_use l)

abbrev pub list_limit : RecordList → ℕ
list_limit l = vec_len l.records

-- the list as a store shows it
abbrev pub shown : RecordList → Matrix
shown l = on_names (list_cells l)
