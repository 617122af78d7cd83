-- The own attributes of the built-in classes.
use Rattle.py_node.specs.Below.{List}
use Rattle.py_node.specs.declared.built_in.BuiltIn.{BuiltIn}
use Rattle.py_node.specs.declared.built_in.BuiltIn.TheVariants as built_in
use Rattle.py_node.specs.declared.known.Known.{Known}
use Rattle.py_node.specs.declared.attr.Attr.{Attr}
use Rattle.py_node.specs.declared.own_attrs.TheConstants.{OBJECT, TYPE}
use Rattle.py_node.specs.declared.attrs_of_values.TheConstants as value
use Rattle.py_node.specs.declared.attrs_of_callables.TheConstants as callable

-- the own attributes of a class, in order: a name, and what it is
unfoldable pub own_attrs : BuiltIn → List (Known × Attr)
own_attrs built_in.Object = OBJECT
own_attrs built_in.TypeType = TYPE
own_attrs built_in.NoneType = value.NONE_TYPE
own_attrs built_in.NotImplementedType = value.NOT_IMPLEMENTED_TYPE
own_attrs built_in.Int = value.INT
own_attrs built_in.Bool = value.BOOL
own_attrs built_in.Str = value.STR
own_attrs built_in.Tuple = value.TUPLE
own_attrs built_in.List = value.LIST
own_attrs built_in.Dict = value.DICT
own_attrs built_in.Function = callable.FUNCTION
own_attrs built_in.Method = callable.METHOD
own_attrs built_in.BuiltinFunctionOrMethod = callable.BUILTIN_FUNCTION_OR_METHOD
own_attrs built_in.BuiltinMethod = callable.BUILTIN_METHOD
own_attrs built_in.MethodDescriptor = callable.METHOD_DESCRIPTOR
own_attrs built_in.GetSetDescriptor = callable.GET_SET_DESCRIPTOR
own_attrs built_in.MemberDescriptor = callable.MEMBER_DESCRIPTOR
own_attrs built_in.Property = callable.PROPERTY
own_attrs built_in.ClassMethod = callable.CLASS_METHOD
own_attrs built_in.StaticMethod = callable.STATIC_METHOD
own_attrs built_in.Super = callable.SUPER
own_attrs built_in.Iterator = callable.ITERATOR
own_attrs built_in.Slice = callable.SLICE
