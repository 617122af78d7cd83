-- Definitions of members, and what they are as objects.
use Rattle.proto_attr.specs.Below.{ℕ, Option, None, option_map, string_bytes, MemberKind, MemberGetter, MemberSetter, Text, Datum, AMember}
use Rattle.proto_attr.specs.declared.native_defs.member.PyMemberDef.{PyMemberDef}

-- the definition of a member, with texts as bytes
pub record Member : Type 0 where
  pub name : Text
  pub kind : MemberKind
  pub getter : MemberGetter
  pub setter : MemberSetter
  pub doc : Option Text

abbrev pub member : Text → MemberKind → MemberGetter → MemberSetter → Option Text → Member
member name kind get set doc = record { name = name; kind = kind; getter = get; setter = set; doc = doc }

abbrev pub member_of : PyMemberDef → Member
member_of d = record { name = string_bytes d.name; kind = d.kind; getter = d.getter; setter = d.setter; doc = option_map (λ x. string_bytes x) d.doc }

-- as a member of a class
abbrev pub as_member : Member → ℕ → Datum
as_member d class = AMember class d.name d.kind d.getter d.setter None d.doc
