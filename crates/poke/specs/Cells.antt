-- One number of a row written over. A narrow field takes numbers of 32 bits; role sets and a command's `first` take any.
use Rattle.std.specs.Prelude.{ℕ, ◌-◌, ◌/◌, ◌%◌, cond, List, set, Ok, Err, Result, ◌==◌, nat_le, nat_lt, slice_index_or}
use Rattle.rows.specs.declared.row.PolicyRow.{PolicyRow}
use Rattle.rows.specs.declared.row.GrantRow.{GrantRow}
use Rattle.rows.specs.declared.row.LocationRow.{LocationRow}
use Rattle.rows.specs.declared.row.PathStepRow.{PathStepRow}
use Rattle.rows.specs.declared.row.TreeLine.{TreeLine}
use Rattle.rows.specs.declared.row.TemplateRow.{TemplateRow}
use Rattle.rows.specs.declared.row.PatternRow.{PatternRow}
use Rattle.rows.specs.declared.row.CommandRow.{CommandRow}
use Rattle.rows.specs.declared.row.JobRow.{JobRow}
use Rattle.layout.specs.declared.memory.RunningRow.{RunningRow}
use Rattle.layout.specs.declared.memory.Slot.{Slot}
use Rattle.layout.specs.Zeros.{slot0}
use Rattle.poke.specs.declared.wrong.Wrong.{Wrong}
use Rattle.poke.specs.declared.wrong.Wrong.TheVariants.{Field, Value}

-- What is made of a value, if there is one.
abbrev pub on_ok : {A B : Type 0} → Result A Wrong → (A → B) → Result B Wrong
on_ok (Ok x) f = Ok (f x)
on_ok (Err w) f = Err w

-- A number of 32 bits.
unfoldable pub narrowed : ℕ → Result ℕ Wrong
narrowed value = cond (nat_le value 4294967295) (Ok value) (Err Value)

abbrev pub policy_with : PolicyRow → ℕ → ℕ → Result PolicyRow Wrong
policy_with r field value =
    cond (field == 0) (Ok (record { least = value }))
    (Err Field)

abbrev pub grant_with : GrantRow → ℕ → ℕ → Result GrantRow Wrong
grant_with r field value =
    cond (field == 0) (on_ok (narrowed value) (λ v. record { policy = v; direction = r.direction; holder = r.holder; role = r.role }))
    (cond (field == 1) (on_ok (narrowed value) (λ v. record { policy = r.policy; direction = v; holder = r.holder; role = r.role }))
    (cond (field == 2) (Ok (record { policy = r.policy; direction = r.direction; holder = value; role = r.role }))
    (cond (field == 3) (on_ok (narrowed value) (λ v. record { policy = r.policy; direction = r.direction; holder = r.holder; role = v }))
    (Err Field))))

abbrev pub location_with : LocationRow → ℕ → ℕ → Result LocationRow Wrong
location_with r field value =
    cond (field == 0) (on_ok (narrowed value) (λ v. record { policy = v }))
    (Err Field)

abbrev pub step_with : PathStepRow → ℕ → ℕ → Result PathStepRow Wrong
step_with r field value =
    cond (field == 0) (on_ok (narrowed value) (λ v. record { path = v; label = r.label; set = r.set }))
    (cond (field == 1) (on_ok (narrowed value) (λ v. record { path = r.path; label = v; set = r.set }))
    (cond (field == 2) (Ok (record { path = r.path; label = r.label; set = value }))
    (Err Field)))

abbrev pub line_with : TreeLine → ℕ → ℕ → Result TreeLine Wrong
line_with r field value =
    cond (field == 0) (on_ok (narrowed value) (λ v. record { depth = v; label = r.label; set = r.set; content = r.content; first = r.first; second = r.second }))
    (cond (field == 1) (on_ok (narrowed value) (λ v. record { depth = r.depth; label = v; set = r.set; content = r.content; first = r.first; second = r.second }))
    (cond (field == 2) (Ok (record { depth = r.depth; label = r.label; set = value; content = r.content; first = r.first; second = r.second }))
    (cond (field == 3) (on_ok (narrowed value) (λ v. record { depth = r.depth; label = r.label; set = r.set; content = v; first = r.first; second = r.second }))
    (cond (field == 4) (on_ok (narrowed value) (λ v. record { depth = r.depth; label = r.label; set = r.set; content = r.content; first = v; second = r.second }))
    (cond (field == 5) (on_ok (narrowed value) (λ v. record { depth = r.depth; label = r.label; set = r.set; content = r.content; first = r.first; second = v }))
    (Err Field))))))

-- A template line is the template and then a tree's line.
abbrev pub template_with : TemplateRow → ℕ → ℕ → Result TemplateRow Wrong
template_with r field value =
    cond (field == 0) (on_ok (narrowed value) (λ v. record { template = v; line = r.line }))
    (on_ok (line_with r.line (field - 1) value) (λ l. record { template = r.template; line = l }))

abbrev pub pattern_with : PatternRow → ℕ → ℕ → Result PatternRow Wrong
pattern_with r field value =
    cond (field == 0) (on_ok (narrowed value) (λ v. record { kind = v; slot = r.slot; policy = r.policy; first = r.first; second = r.second }))
    (cond (field == 1) (on_ok (narrowed value) (λ v. record { kind = r.kind; slot = v; policy = r.policy; first = r.first; second = r.second }))
    (cond (field == 2) (on_ok (narrowed value) (λ v. record { kind = r.kind; slot = r.slot; policy = v; first = r.first; second = r.second }))
    (cond (field == 3) (Ok (record { kind = r.kind; slot = r.slot; policy = r.policy; first = value; second = r.second }))
    (cond (field == 4) (Ok (record { kind = r.kind; slot = r.slot; policy = r.policy; first = r.first; second = value }))
    (Err Field)))))

abbrev pub command_with : CommandRow → ℕ → ℕ → Result CommandRow Wrong
command_with r field value =
    cond (field == 0) (on_ok (narrowed value) (λ v. record { verb = v; next = r.next; operand_kind = r.operand_kind; operand = r.operand; first = r.first; second = r.second; third = r.third; fourth = r.fourth }))
    (cond (field == 1) (on_ok (narrowed value) (λ v. record { verb = r.verb; next = v; operand_kind = r.operand_kind; operand = r.operand; first = r.first; second = r.second; third = r.third; fourth = r.fourth }))
    (cond (field == 2) (on_ok (narrowed value) (λ v. record { verb = r.verb; next = r.next; operand_kind = v; operand = r.operand; first = r.first; second = r.second; third = r.third; fourth = r.fourth }))
    (cond (field == 3) (on_ok (narrowed value) (λ v. record { verb = r.verb; next = r.next; operand_kind = r.operand_kind; operand = v; first = r.first; second = r.second; third = r.third; fourth = r.fourth }))
    (cond (field == 4) (Ok (record { verb = r.verb; next = r.next; operand_kind = r.operand_kind; operand = r.operand; first = value; second = r.second; third = r.third; fourth = r.fourth }))
    (cond (field == 5) (on_ok (narrowed value) (λ v. record { verb = r.verb; next = r.next; operand_kind = r.operand_kind; operand = r.operand; first = r.first; second = v; third = r.third; fourth = r.fourth }))
    (cond (field == 6) (on_ok (narrowed value) (λ v. record { verb = r.verb; next = r.next; operand_kind = r.operand_kind; operand = r.operand; first = r.first; second = r.second; third = v; fourth = r.fourth }))
    (cond (field == 7) (on_ok (narrowed value) (λ v. record { verb = r.verb; next = r.next; operand_kind = r.operand_kind; operand = r.operand; first = r.first; second = r.second; third = r.third; fourth = v }))
    (Err Field))))))))

abbrev pub job_with : JobRow → ℕ → ℕ → Result JobRow Wrong
job_with r field value =
    cond (field == 0) (on_ok (narrowed value) (λ v. record { policy = v; roles = r.roles; command = r.command }))
    (cond (field == 1) (Ok (record { policy = r.policy; roles = value; command = r.command }))
    (cond (field == 2) (on_ok (narrowed value) (λ v. record { policy = r.policy; roles = r.roles; command = v }))
    (Err Field)))

-- A slot is its pattern (0) and its value (1).
abbrev pub slot_with : Slot → ℕ → ℕ → Result Slot Wrong
slot_with s part value =
    cond (part == 0) (on_ok (narrowed value) (λ v. record { pattern = v; value = s.value }))
    (on_ok (narrowed value) (λ v. record { pattern = s.pattern; value = v }))

-- The slots, counted by their parts: the part 2k is the pattern of slot k, and 2k + 1 its value.
abbrev pub slots_with : List Slot → ℕ → ℕ → Result (List Slot) Wrong
slots_with slots part value =
    cond (nat_lt (part / 2) 6) (on_ok (slot_with (slice_index_or slots (part / 2) slot0) (part % 2) value) (λ new. set slots (part / 2) new)) (Err Field)

abbrev pub with_slots : RunningRow → List Slot → RunningRow
with_slots r slots = record { location = r.location; roles = r.roles; command = r.command; slots = slots }

-- A running job is its location, its roles, its next command, and then the parts of its slots.
abbrev pub running_with : RunningRow → ℕ → ℕ → Result RunningRow Wrong
running_with r field value =
    cond (field == 0) (on_ok (narrowed value) (λ v. record { location = v; roles = r.roles; command = r.command; slots = r.slots }))
    (cond (field == 1) (Ok (record { location = r.location; roles = value; command = r.command; slots = r.slots }))
    (cond (field == 2) (on_ok (narrowed value) (λ v. record { location = r.location; roles = r.roles; command = v; slots = r.slots }))
    (on_ok (slots_with r.slots (field - 3) value) (with_slots r))))
