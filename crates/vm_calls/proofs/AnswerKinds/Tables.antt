-- What the natives of the built-in classes answer that stand in a slot.
use Rattle.vm_calls.proofs.Below.{BuiltIn, Init, New, Richcompare, Int, Iter, Iternext, SeqContains, SeqItem, SeqLength, MapLength, MapSubscript, Repr, Concat, InplaceConcat, own_attrs, names_of, slot_names, filling_of, slot_fillings, place_of as slot_place, entry_among, Value, TruthValue, Number, kind_of_native}
use Rattle.py_node.specs.declared.built_in.BuiltIn.TheVariants as built_in
use Rattle.vm_calls.proofs.AnswerKinds.Base.{So}
use Rattle.vm_calls.proofs.AnswerKinds.Columns.{gives_in, Column}

new-row : (b : BuiltIn) → So (gives_in Value (entry_among b New (own_attrs b)))
unfolding kind_of_native own_attrs names_of slot_names filling_of slot_fillings slot_place
new-row built_in.Object = tt
new-row b = tt

pub new-column : Column Value New
new-column = record { gives = new-row }

init-row : (b : BuiltIn) → So (gives_in Value (entry_among b Init (own_attrs b)))
unfolding kind_of_native own_attrs names_of slot_names filling_of slot_fillings slot_place
init-row built_in.Object = tt
init-row b = tt

pub init-column : Column Value Init
init-column = record { gives = init-row }

int-row : (b : BuiltIn) → So (gives_in Value (entry_among b Int (own_attrs b)))
unfolding kind_of_native own_attrs names_of slot_names filling_of slot_fillings slot_place
int-row built_in.Object = tt
int-row b = tt

pub int-column : Column Value Int
int-column = record { gives = int-row }

iter-row : (b : BuiltIn) → So (gives_in Value (entry_among b Iter (own_attrs b)))
unfolding kind_of_native own_attrs names_of slot_names filling_of slot_fillings slot_place
iter-row built_in.Object = tt
iter-row b = tt

pub iter-column : Column Value Iter
iter-column = record { gives = iter-row }

next-row : (b : BuiltIn) → So (gives_in Value (entry_among b Iternext (own_attrs b)))
unfolding kind_of_native own_attrs names_of slot_names filling_of slot_fillings slot_place
next-row built_in.Object = tt
next-row b = tt

pub next-column : Column Value Iternext
next-column = record { gives = next-row }

contains-row : (b : BuiltIn) → So (gives_in TruthValue (entry_among b SeqContains (own_attrs b)))
unfolding kind_of_native own_attrs names_of slot_names filling_of slot_fillings slot_place
contains-row built_in.Object = tt
contains-row b = tt

pub contains-column : Column TruthValue SeqContains
contains-column = record { gives = contains-row }

item-row : (b : BuiltIn) → So (gives_in Value (entry_among b SeqItem (own_attrs b)))
unfolding kind_of_native own_attrs names_of slot_names filling_of slot_fillings slot_place
item-row built_in.Object = tt
item-row b = tt

pub item-column : Column Value SeqItem
item-column = record { gives = item-row }

length-row : (b : BuiltIn) → So (gives_in Number (entry_among b SeqLength (own_attrs b)))
unfolding kind_of_native own_attrs names_of slot_names filling_of slot_fillings slot_place
length-row built_in.Object = tt
length-row b = tt

pub length-column : Column Number SeqLength
length-column = record { gives = length-row }

map-length-row : (b : BuiltIn) → So (gives_in Number (entry_among b MapLength (own_attrs b)))
unfolding kind_of_native own_attrs names_of slot_names filling_of slot_fillings slot_place
map-length-row built_in.Object = tt
map-length-row b = tt

pub map-length-column : Column Number MapLength
map-length-column = record { gives = map-length-row }

subscript-row : (b : BuiltIn) → So (gives_in Value (entry_among b MapSubscript (own_attrs b)))
unfolding kind_of_native own_attrs names_of slot_names filling_of slot_fillings slot_place
subscript-row built_in.Object = tt
subscript-row b = tt

pub subscript-column : Column Value MapSubscript
subscript-column = record { gives = subscript-row }

repr-row : (b : BuiltIn) → So (gives_in Value (entry_among b Repr (own_attrs b)))
unfolding kind_of_native own_attrs names_of slot_names filling_of slot_fillings slot_place
repr-row built_in.Object = tt
repr-row b = tt

pub repr-column : Column Value Repr
repr-column = record { gives = repr-row }

concat-row : (b : BuiltIn) → So (gives_in Value (entry_among b Concat (own_attrs b)))
unfolding kind_of_native own_attrs names_of slot_names filling_of slot_fillings slot_place
concat-row built_in.Object = tt
concat-row b = tt

pub concat-column : Column Value Concat
concat-column = record { gives = concat-row }

inplace-concat-row : (b : BuiltIn) → So (gives_in Value (entry_among b InplaceConcat (own_attrs b)))
unfolding kind_of_native own_attrs names_of slot_names filling_of slot_fillings slot_place
inplace-concat-row built_in.Object = tt
inplace-concat-row b = tt

pub inplace-concat-column : Column Value InplaceConcat
inplace-concat-column = record { gives = inplace-concat-row }

compare-row : (b : BuiltIn) → So (gives_in Value (entry_among b Richcompare (own_attrs b)))
unfolding kind_of_native own_attrs names_of slot_names filling_of slot_fillings slot_place
compare-row built_in.Object = tt
compare-row b = tt

pub compare-column : Column Value Richcompare
compare-column = record { gives = compare-row }
