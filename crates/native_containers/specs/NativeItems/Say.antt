-- What the natives say that read and set items, and go over them.
use Rattle.native_containers.specs.Below.{Bool, true, false, List, PyObjectRef, NativeEntry, OfStr, OfTuple, OfList, OfIterator, PlainWorld, PlainTask, ToNative, Bindings, Row, end, elsewhere}
use Rattle.py_node.specs.declared.entry.StrNative.TheVariants as str
use Rattle.py_node.specs.declared.entry.TupleNative.TheVariants as tuple
use Rattle.py_node.specs.declared.entry.ListNative.TheVariants as list
use Rattle.py_node.specs.declared.entry.IteratorNative.TheVariants as iterator
use Rattle.row_kit.specs.declared.take_containers.Kind.TheVariants as kind
use Rattle.native_containers.specs.NativeItems.Items.{tuple_get_item, list_get_item, str_get_item, list_set_item, list_del_item, contains, list_extend}
use Rattle.native_containers.specs.NativeItems.Iterators.{iterator_next}

abbrev pub items_native_say : PlainWorld → NativeEntry → List PyObjectRef → Bindings → Row
items_native_say w (OfStr str.GetItem) args kw = str_get_item w args kw
items_native_say w (OfTuple tuple.GetItem) args kw = tuple_get_item w args kw
items_native_say w (OfTuple tuple.Contains) args kw = contains kind.Tuple w args kw
items_native_say w (OfList list.GetItem) args kw = list_get_item w args kw
items_native_say w (OfList list.SetItem) args kw = list_set_item w args kw
items_native_say w (OfList list.DelItem) args kw = list_del_item w args kw
items_native_say w (OfList list.Contains) args kw = contains kind.List w args kw
items_native_say w (OfList list.InplaceAdd) args kw = list_extend w args kw
items_native_say w (OfIterator iterator.Next) args kw = iterator_next w args kw
items_native_say w _ args kw = end w elsewhere

-- these natives, as a group of rows
unfoldable pub item_job_say : PlainWorld → PlainTask → Row
item_job_say w (ToNative n args kw) told = items_native_say w n args kw told
item_job_say w _ told = end w elsewhere told
