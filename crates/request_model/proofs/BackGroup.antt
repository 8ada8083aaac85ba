-- A group that is written is read again.
use Rattle.std.proofs.Common.{◌≡◌, ℕ, ◌≤◌, List, length, true, Ok, ok_or, nat_le, refl, arith}
use Rattle.std.proofs.lemmas.Bool.{leb-true, eqb-true, and_parts}
use Rattle.serde_json.specs.Data.{string}
use Rattle.plan_base.specs.declared.parts.Op.{Op}
use Rattle.plan_base.specs.declared.parts.Op.TheVariants.{Single, Many, OneOf, And}
use Rattle.plan_json.specs.declared.member.Member.{Member}
use Rattle.plan_json.specs.declared.member.Member.TheVariants as key
use Rattle.plan_json.specs.declared.fault.JsonFault.TheVariants.{OutOfRange}
use Rattle.plan_json.specs.Object.{data_of}
use Rattle.plan_json.specs.Operator.{operator_name, operator_in}
use Rattle.plan_json.specs.Text.{text_in}
use Rattle.plan_json.proofs.Back.{number_back, text_back, as_long, list_back, each_back_from}
use Rattle.plan_json.specs.Reading.{◌>>=◌}
use Rattle.request_model.specs.declared.group.GroupDoc.{GroupDoc}
use Rattle.request_model.specs.declared.group.ObsKind.{ObsKind}
use Rattle.request_model.specs.declared.group.ObsKind.TheVariants.{Normal, TimeCritical, RapidResponse}
use Rattle.request_model.specs.Group.{kind_named, is_shape}
use Rattle.request_model.specs.Request.{request_in}
use Rattle.request_model.specs.Written.{kind_name, request_data, group_data, group_of_bytes}
use Rattle.request_model.specs.Ranges.{IsRequest, IsGroup}
use Rattle.request_model.specs.Laws.{GroupsAreReadBack}
use Rattle.request_model.proofs.BackRequest.{request_back}

operator_back : (m : Member) (op : Op) → operator_in m (string (operator_name op)) ≡ Ok op
operator_back m Single = refl
operator_back m Many = refl
operator_back m OneOf = refl
operator_back m And = refl

kind_back : (kind : ObsKind) → (text_in key.ObservationType (string (kind_name kind)) >>= λ s. ok_or (kind_named s) (OutOfRange key.ObservationType)) ≡ Ok kind
kind_back Normal = refl
kind_back TimeCritical = refl
kind_back RapidResponse = refl

-- no operator has more than 32 requests
few : (op : Op) (n : ℕ) → is_shape op n ≡ true → n ≤ 1024
few Single n h = omega (arith, eqb-true n 1 h)
few Many n h = omega (arith, leb-true n 32 (and_parts (nat_le 2 n) (nat_le n 32) h).1)
few OneOf n h = omega (arith, leb-true n 32 (and_parts (nat_le 2 n) (nat_le n 32) h).1)
few And n h = omega (arith, leb-true n 32 (and_parts (nat_le 2 n) (nat_le n 32) h).1)

pub groups_are_read_back : GroupsAreReadBack
groups_are_read_back g h =
    rw (
      text_back key.Name g.name h.title,
      text_back key.Proposal g.proposal h.payer,
      operator_back key.Operator g.op,
      kind_back g.kind,
      number_back 500 2000 key.IppThousandths g.ipp h.share,
      number_back 1 100 key.Priority g.priority h.rank,
      list_back request_data key.Requests 0 1024 g.requests (record { low = omega arith; high = few g.op (length g.requests) h.shape }),
      as_long request_data g.requests,
      h.shape,
      each_back_from IsRequest request_data request_in request_back 0 g.requests h.each,
    ) refl

-- bytes that are the document of a group
pub bytes_back : (bytes : List ℕ) (g : GroupDoc) → data_of bytes ≡ Ok (group_data g) → IsGroup g → group_of_bytes bytes ≡ Ok g
bytes_back bytes g read h = rw (read, groups_are_read_back g h) refl
