-- What is chosen for a register: where its cells lie, and its filters.
use Rattle.std.specs.Prelude.{ℕ, cond, List, [], ◌++◌, ◌==◌, codes, decimal}
use Rattle.rulings.specs.PileMasks.{mask_of, no_masks, with_mask}
use Rattle.stores.specs.RecordLists.{fits_list}
use Rattle.words.specs.Masks.{mask_words}
use Rattle.setups.specs.declared.setup.Setup.{Setup}
use Rattle.setups.specs.declared.setup.StoreChoice.{StoreChoice}
use Rattle.setups.specs.declared.setup.StoreChoice.TheVariants.{Board, List as Records}

-- where cells lie, in words
abbrev pub store_words : StoreChoice → List ℕ
store_words Board = codes "on a board"
store_words (Records n) = codes "in a list; records: " ++ decimal n

-- a board, and no filters
abbrev pub plain_setup : Setup
plain_setup = record { store = Board; filters = no_masks }

abbrev pub with_store : Setup → StoreChoice → Setup
with_store s choice = record { store = choice; filters = s.filters }

-- A list of so many records, if there is one.
abbrev pub with_list : Setup → (records : ℕ) → Setup
with_list s n = cond (fits_list n) (with_store s (Records n)) s

-- The mask of an attribute, if there is one, takes the place of the one before.
abbrev pub with_filter : Setup → (attribute mask : ℕ) → Setup
with_filter s k m = record { store = s.store; filters = with_mask s.filters k m }

-- A setup as the lines of a script that choose it: where cells lie, and each filter whose mask is not 0.
abbrev pub store_line : StoreChoice → List ℕ
store_line Board = codes "store board\n"
store_line (Records n) = codes "store list " ++ (decimal n ++ codes "\n")

abbrev pub filter_line : (attribute mask : ℕ) → List ℕ
filter_line k m = cond (m == 0) [] (codes "filter " ++ (decimal k ++ (codes " " ++ (mask_words m ++ codes "\n"))))

abbrev pub setup_lines : Setup → List ℕ
setup_lines s =
    store_line s.store
    ++ (filter_line 0 (mask_of s.filters 0)
    ++ (filter_line 1 (mask_of s.filters 1)
    ++ (filter_line 2 (mask_of s.filters 2)
    ++ filter_line 3 (mask_of s.filters 3))))
