-- What the contracts of the rows of attributes say.
use Rattle.proto_attr.specs.Below.{List, [], Result, Some, Raised as Fault, Answer, AttributeTask, Step, PlainWorld, Said, Ended, end, on_value, World, Reading, attribute_job, bindings, spelled, Claim, IsNode, IsName, of_args}
use Rattle.std.specs.Prelude.{◌∷◌}
use Rattle.row_kit.specs.Points as points
use Rattle.row_kit.specs.Points.{Group, Point}
use Rattle.proto_attr.specs.declared.AttributeKept.{AttributeKept}
use Rattle.proto_attr.specs.declared.AttributeKept.TheVariants.{Pass, AfterBind, GetAttr, HasAttr, Maybe, Method}
use Rattle.proto_attr.specs.declared.find.Found.{Found}
use Rattle.proto_attr.specs.declared.find.Found.TheVariants.{Descriptor, Value, Missing}
use Rattle.proto_attr.specs.Say.{attribute_say, as_attribute, get_rest, maybe, not_none, special_rest}

-- what is done with the answer where this is kept
abbrev pub attribute_stands : Reading → AttributeKept → Ended → Point
attribute_stands t Pass r w = end w r
attribute_stands t (GetAttr o x) r w = get_rest w o (spelled t x) 1 r
attribute_stands t HasAttr r w = on_value w r (λ v. end w (not_none v))
attribute_stands t Maybe r w = on_value w r (λ v. end w (maybe (Some v)))
attribute_stands t Method r w = on_value w r (λ v. end w (as_attribute v))
attribute_stands t (AfterBind args kw) r w = special_rest w args.items (bindings t kw.items) 1 r

-- what is said of what is kept
abbrev pub of_attribute_kept : AttributeKept → List Claim
of_attribute_kept Pass = []
of_attribute_kept (GetAttr o x) = IsNode o ∷ IsName x ∷ []
of_attribute_kept HasAttr = []
of_attribute_kept Maybe = []
of_attribute_kept Method = []
of_attribute_kept (AfterBind args kw) = of_args args.items kw.items

-- what is said of what was found
abbrev pub of_found : Found → List Claim
of_found (Descriptor a) = IsNode a ∷ []
of_found (Value v) = IsNode v ∷ []
of_found Missing = []

-- the group: the row of a task, and what is done with an answer
abbrev pub attribute_group : Group AttributeTask AttributeKept
attribute_group = record { row = λ t task w. attribute_say w (attribute_job t task); stands = attribute_stands }

abbrev pub Begins : AttributeTask → World → World → Step AttributeKept → Type 0
Begins = points.Begins attribute_group

abbrev pub Resumes : AttributeKept → Result Answer Fault → World → World → Step AttributeKept → Type 0
Resumes = points.Resumes attribute_group

-- the first step of a task, which is said to be this
abbrev pub Starts : AttributeTask → (Reading → PlainWorld → Said) → World → World → Step AttributeKept → Type 0
Starts = points.Starts attribute_group
