-- What a run's exit status says of what failed.
use Rattle.std.specs.Prelude.{ℕ, List, Option, Some, None, ◌==◌, if◌then◌else◌, codes}

-- the text for an exit status; there is none for 0, for 1 and 2, which say more before, and for any other
abbrev pub reason_text : ℕ → Option (List ℕ)
reason_text status = if status == 3 then Some (codes "the input failed")
    else (if status == 4 then Some (codes "the output failed")
    else (if status == 5 then Some (codes "the medium failed, or the store of the root record")
    else (if status == 6 then Some (codes "the source of keys failed")
    else (if status == 7 then Some (codes "the ledger failed")
    else (if status == 8 then Some (codes "the root record is none that can be served")
    else (if status == 9 then Some (codes "a page does not hold the record that is wanted there")
    else (if status == 10 then Some (codes "the ledger is refused, or there is no device")
    else (if status == 11 then Some (codes "no memory was given")
    else (if status == 12 then Some (codes "2^32 bytes of input were taken before its end") else None)))))))))
